-- Reading the blocks of a stored sheet one after the other.
use Rattle.std.proofs.Common.{◌≡◌, ℕ, suc, ◌+◌, ◌-◌, ◌*◌, ◌/◌, ◌<◌, ◌≤◌, List, ◌++◌, map, length, take, drop, set, replicate, Some, None, Ok, Err, Option, Result, MatchResult, sym, refl, ap, ◌∙◌, subst, arith, length-append, length-drop, length-set}
use Rattle.std.specs.Result.{IsErrAnd}
use Rattle.std.proofs.lemmas.List.{drop-drop, drop_at, map-set, take_all, take_at}
use Rattle.std.proofs.lemmas.Result.{err_from_is_err_and}
use Rattle.busbar.specs.Record.{record_no}
use Rattle.busbar.specs.declared.question.Question.{Question}
use Rattle.feeder.specs.Laws.{Told}
use Rattle.stored.specs.Read.{StoredLine, read_line}
use Rattle.sheet.specs.Plain.{Entry, positions, stands_if}
use Rattle.sheet.specs.Position.{entry_of, again, Stands}
use Rattle.sheet.specs.Happened.{entries_of}
use Rattle.sheet.specs.Stored.{part_of, entered, line_entered, load_next, load_lines, no_at, number_of_line}
use Rattle.sheet.specs.Loading.{LineRead, PutAt, Filled}
use Rattle.sheet.specs.declared.load.NotLoaded.{NotLoaded}
use Rattle.sheet.specs.declared.load.Placed.{Placed}
use Rattle.sheet.specs.declared.position.State.{State}
use Rattle.sheet.specs.declared.position.State.TheVariants as state
use Rattle.sheet.proofs.Tables.{sound_with}

abbrev none_yet : List Entry
none_yet = replicate positions Entry.empty

-- what is read so far, with what is left to read, is the whole
pub record Reading (bytes rest : List ℕ) (told : Told) (table : List State) (last i : ℕ) : Type 0 where
  pub place : rest ≡ drop (512 * (i + 1)) bytes
  pub lines : load_lines (length rest / 512) bytes (i + 1) last (entries_of table) ≡ load_lines (length bytes / 512 - 1) bytes 1 0 none_yet
  pub sound : map (again told) table ≡ table
  pub long : length table ≡ 32

pub reading_none : (bytes rest : List ℕ) (told : Told) (i : ℕ) → 512 ≤ length bytes → rest ≡ take (length bytes - 512) (drop 512 bytes) → i ≡ 0 → Reading bytes rest told (replicate 32 state.Empty) 0 i
reading_none bytes rest told i room part first =
    let is : rest ≡ drop 512 bytes = part ∙ take_all (length bytes - 512) (drop 512 bytes) (omega (arith, length-drop 512 bytes)) in
    let many : length rest / 512 ≡ length bytes / 512 - 1 = omega (arith, ap length is, length-drop 512 bytes) in
    record {
      place = is ∙ ap (λ n. drop (512 * (n + 1)) bytes) (sym first);
      lines = λ k. load_lines (many k) bytes (first k + 1) 0 none_yet;
      sound = refl;
      long = refl;
    }

-- a block's record put where the block says, or the question of the record that got a no

entered_to : (entries : List Entry) (s : StoredLine) (o : Option Question) (e : Entry) → stands_if o s.bar ≡ Ok e → entered entries s o ≡ Ok (set entries (s.number - 1) e)
entered_to entries s None e is = let same : Entry.standing s.bar ≡ e = cc in ap (λ x. Ok (set entries (s.number - 1) x)) same
entered_to entries s (Some q) e is = cc

entered_not : (entries : List Entry) (s : StoredLine) (o : Option Question) (no_to : Question) → stands_if o s.bar ≡ Err no_to → entered entries s o ≡ Err no_to
entered_not entries s None no_to is = cc
entered_not entries s (Some q) no_to is = let same : q ≡ no_to = cc in ap Err same

pub line_put : (part : List ℕ) (last : ℕ) (told : Told) (s : StoredLine) (x : Placed) → Ok s ≡ read_line part last → x.place.value ≡ s.number → Stands s.bar told (Ok x.state)
    → PutAt part last told x
line_put part last told s x read number (stands, right) = record {
  entered_is = λ entries.
      ap (line_entered entries) (sym read) ∙ entered_to entries s (record_no s.bar) (entry_of x.state) stands
      ∙ ap (λ n. Ok (set entries (n - 1) (entry_of x.state))) (sym number);
  number_is = ap number_of_line (sym read) ∙ sym number;
  right = right;
}

pub line_not : (part : List ℕ) (last : ℕ) (told : Told) (s : StoredLine) (no_to : Question) → Ok s ≡ read_line part last → Stands s.bar told (Err no_to)
    → LineRead part last told (Err no_to)
line_not part last told s no_to read stands entries =
    ap (line_entered entries) (sym read) ∙ entered_not entries s (record_no s.bar) no_to stands

-- what a block gives, with its number beside a no

abbrev pub NumberedRead : List ℕ → ℕ → Told → ℕ → Result Placed NotLoaded → Type 0
NumberedRead part last told k (Ok x) = PutAt part last told x
NumberedRead part last told k (Err no_to) = (no_to.block ≡ k) × ((entries : List Entry) → line_entered entries (read_line part last) ≡ Err no_to.question)

pub numbered : (part : List ℕ) (last : ℕ) (told : Told) (k : ℕ) (r : Result Placed Question) (s t : Result Placed NotLoaded) (Q : Question → NotLoaded → Type 0)
    → LineRead part last told r → MatchResult r (λ x. s ≡ Ok x) (λ e. IsErrAnd s (Q e)) → s ≡ t → ((e : Question) (d : NotLoaded) → Q e d → (d.block ≡ k) × (d.question ≡ e))
    → NumberedRead part last told k t
numbered part last told k (Ok x) s t Q read is same at = subst (NumberedRead part last told k) (sym is ∙ same) read
numbered part last told k (Err e) s t Q read is same at =
    let no = err_from_is_err_and s is in
    let (block, question) = at e no.0 no.2 in
    subst (NumberedRead part last told k) (sym no.1 ∙ same) (block, λ entries. read entries ∙ ap Err (sym question))

-- one block less to read
module _ (bytes rest part more : List ℕ) (told : Told) (table : List State) (last i : ℕ) (inv : Reading bytes rest told table last i) (cut : rest ≡ part ++ more) (size : length part ≡ 512) where
  part_is : part_of bytes (i + 1) ≡ part
  part_is = ap (take 512) (sym inv.place ∙ cut) ∙ take_at part more 512 size

  one_less : length rest / 512 ≡ suc (length more / 512)
  one_less = omega (arith, ap length cut, length-append part more)

  more_is : more ≡ drop (512 * (i + 1 + 1)) bytes
  more_is =
      sym (drop_at part more 512 size) ∙ ap (drop 512) (sym cut ∙ inv.place) ∙ drop-drop 512 (512 * (i + 1)) bytes
      ∙ ap (λ n. drop n bytes) (omega arith)

  step_is : load_lines (length rest / 512) bytes (i + 1) last (entries_of table)
      ≡ load_next (i + 1) (line_entered (entries_of table) (read_line part last)) (λ es. load_lines (length more / 512) bytes (i + 1 + 1) (number_of_line (read_line part last)) es)
  step_is =
      ap (λ n. load_lines n bytes (i + 1) last (entries_of table)) one_less
      ∙ ap (λ p. load_next (i + 1) (line_entered (entries_of table) (read_line p last)) (λ es. load_lines (length more / 512) bytes (i + 1 + 1) (number_of_line (read_line p last)) es)) part_is

  pub reading_more : (x : Placed) (j next : ℕ) → j + 1 ≡ x.place.value → next ≡ i + 1 → PutAt part last told x → Reading bytes more told (set table j x.state) x.place.value next
  reading_more x j next index is put =
      let at : x.place.value - 1 ≡ j = omega arith in
      record {
        place = more_is ∙ ap (λ n. drop (512 * (n + 1)) bytes) (sym is);
        lines =
            ap (λ n. load_lines (length more / 512) bytes (n + 1) x.place.value (entries_of (set table j x.state))) is
            ∙ ap (load_lines (length more / 512) bytes (i + 1 + 1) x.place.value) (map-set entry_of table j x.state)
            ∙ ap (λ n. load_lines (length more / 512) bytes (i + 1 + 1) n (set (entries_of table) j (entry_of x.state))) (sym put.number_is)
            ∙ ap (λ r. load_next (i + 1) r (λ es. load_lines (length more / 512) bytes (i + 1 + 1) (number_of_line (read_line part last)) es)) (sym (put.entered_is (entries_of table) ∙ ap (λ k. Ok (set (entries_of table) k (entry_of x.state))) at))
            ∙ sym step_is
            ∙ inv.lines;
        sound = sound_with told table j x.state inv.sound put.right;
        long = length-set table j x.state ∙ inv.long;
      }

  pub reading_stops : (no_to : NotLoaded) → NumberedRead part last told (i + 1) (Err no_to) → load_lines (length bytes / 512 - 1) bytes 1 0 none_yet ≡ Err (no_at no_to.block no_to.question)
  reading_stops no_to (block, fails) =
      sym inv.lines ∙ step_is
      ∙ ap (λ r. load_next (i + 1) r (λ es. load_lines (length more / 512) bytes (i + 1 + 1) (number_of_line (read_line part last)) es)) (fails (entries_of table))
      ∙ ap (λ k. Err (no_at k no_to.question)) (sym block)

pub reading_all : (bytes rest : List ℕ) (told : Told) (table : List State) (last i : ℕ) → Reading bytes rest told table last i → length rest < 512 → Filled bytes (length bytes / 512 - 1) told table
reading_all bytes rest told table last i inv h =
    let none : length rest / 512 ≡ 0 = omega arith in
    record {
      entries_are = sym inv.lines ∙ ap (λ n. load_lines n bytes (i + 1) last (entries_of table)) none;
      sound = inv.sound;
      long = inv.long;
    }
