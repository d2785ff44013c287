-- Counting and writing the blocks of a table, position by position.
use Rattle.std.proofs.Common.{◌≡◌, ℕ, ◌+◌, ◌-◌, ◌*◌, ◌/◌, ◌%◌, ◌<◌, ◌≤◌, cond, eqb, List, [], ◌∷◌, ◌++◌, length, get_or, take, drop, Ok, sym, refl, ap, ◌∙◌, append_assoc, arith, lit≤, length-append, length-drop, length-take}
use borrow.Rule.Slice.PartMut.{put_mid}
use Rattle.std.proofs.lemmas.List.{at_drop_more, drop-drop}
use Rattle.std.proofs.lemmas.Slice.{drop-put_mid, take-put_mid}
use Rattle.std.proofs.lemmas.Bool.{cond-true, eq-eqb, le-leb}
use Rattle.std.proofs.lemmas.List.FromFn.{length-map-range_with_len}
use Rattle.busbar.specs.declared.checked.CheckedRecord.{CheckedRecord}
use Rattle.stored.specs.Block.{body_of, block_of, check_of, header_byte, position_byte}
use Rattle.sheet.specs.Calls.Answer.{saved}
use Rattle.sheet.specs.Plain.{Entry, Plain}
use Rattle.sheet.specs.Position.{entry_of}
use Rattle.sheet.specs.Happened.{entries_of}
use Rattle.sheet.specs.Stored.{stands_one, standing_in, open_ones, entry_block, position_blocks, stored, saved_blocks, buffer_after}
use Rattle.sheet.specs.declared.position.State.{State}
use Rattle.sheet.specs.declared.position.State.TheVariants as state

-- each entry stands once at most

pub once_at_most : (e : Entry) → stands_one e ≤ 1
once_at_most Entry.empty = lit≤ tt
once_at_most (Entry.standing r) = lit≤ tt
once_at_most (Entry.opened r) = lit≤ tt

-- a block is 512 bytes long

pub length_block : (byte_at : ℕ → ℕ) → length (block_of byte_at) ≡ 512
unfolding body_of
length_block byte_at =
    length-append (body_of byte_at) (check_of (body_of byte_at) / 256 ∷ check_of (body_of byte_at) % 256 ∷ [])
    ∙ ap (λ n. n + 2) (length-map-range_with_len byte_at 0 510)

pub length_entry_block : (n : ℕ) (e : Entry) → length (entry_block n e) ≡ 512 * stands_one e
length_entry_block n Entry.empty = refl
length_entry_block n (Entry.standing r) = length_block (position_byte n r)
length_entry_block n (Entry.opened r) = refl

no_block : (n : ℕ) (e : Entry) → stands_one e ≡ 0 → entry_block n e ≡ []
no_block n Entry.empty h = refl
no_block n (Entry.standing r) h = absurd (omega arith)
no_block n (Entry.opened r) h = refl

not_standing : (s : State) → ((bar : CheckedRecord) (v : _) → s ≡ state.Standing bar v → ⊥) → stands_one (entry_of s) ≡ 0
not_standing state.Empty h = refl
not_standing (state.Standing bar v) h = absurd (h bar v refl)
not_standing (state.Open bar) h = refl

-- the blocks that are written, with those that are left to write, are all blocks; behind them the lines are as they were
pub record Lines (table : List State) (old lines : List ℕ) (at i : ℕ) : Type 0 where
  pub blocks : take at lines ++ position_blocks (i + 1) (entries_of (drop i table)) ≡ position_blocks 1 (entries_of table)
  pub behind : drop at lines ≡ drop at old
  pub place : at + 512 * standing_in (entries_of (drop i table)) ≡ 512 * standing_in (entries_of table)
  pub long : length lines ≡ length old

-- one position more
module _ (table : List State) (old lines : List ℕ) (at i : ℕ) (s : State) (inv : Lines table old lines at i) (h : i < length table) (is : s ≡ get_or table i s) where
  left : {Y : Type 0} (F : List State → Y) → F (drop i table) ≡ F (s ∷ drop (i + 1) table)
  left F = at_drop_more F table i s h ∙ ap (λ x. F (x ∷ drop (i + 1) table)) (sym is)

  rest : List ℕ
  rest = position_blocks (i + 1 + 1) (entries_of (drop (i + 1) table))

  pub lines_kept : ((bar : CheckedRecord) (v : _) → s ≡ state.Standing bar v → ⊥) → Lines table old lines at (i + 1)
  unfolding rest
  lines_kept other =
      let none = not_standing s other in
      record {
        blocks =
            ap (λ b. take at lines ++ (b ++ rest)) (sym (no_block (i + 1) (entry_of s) none))
            ∙ ap (λ l. take at lines ++ l) (sym (left (λ l. position_blocks (i + 1) (entries_of l))))
            ∙ inv.blocks;
        behind = inv.behind;
        place = omega (arith, left (λ l. standing_in (entries_of l)), inv.place);
        long = inv.long;
      }

  pub lines_more : (bar : CheckedRecord) (v : _) (part after : List ℕ) → s ≡ state.Standing bar v → 512 * standing_in (entries_of table) ≤ length old
      → part ≡ cond (eqb (length (take (at + 512 - at) (drop at lines))) 512) (block_of (position_byte (i + 1) bar.bar)) (take (at + 512 - at) (drop at lines))
      → after ≡ put_mid at (at + 512 - at) lines part → length after ≡ length lines → Lines table old after (at + 512) (i + 1)
  unfolding rest
  lines_more bar v part after stands room made wrote same =
      let one : stands_one (entry_of s) ≡ 1 = ap (λ x. stands_one (entry_of x)) stands in
      let fits : at + 512 ≤ length lines = omega (arith, one, left (λ l. standing_in (entries_of l)), inv.place, inv.long) in
      let size : length (take (at + 512 - at) (drop at lines)) ≡ 512 = length-take (at + 512 - at) (drop at lines) ∙ omega (arith, length-drop at lines) in
      let block : part ≡ block_of (position_byte (i + 1) bar.bar) = made ∙ cond-true _ _ _ (eq-eqb _ _ size) in
      let long : length part ≡ 512 = ap length block ∙ length_block (position_byte (i + 1) bar.bar) in
      let taken : take (at + 512) after ≡ take at lines ++ part = ap (take (at + 512)) wrote ∙ take-put_mid at (at + 512 - at) lines part (at + 512) (omega arith) (omega arith) in
      let dropped : drop (at + 512) after ≡ drop (at + 512) lines = ap (drop (at + 512)) wrote ∙ drop-put_mid at (at + 512 - at) lines part (at + 512) (omega arith) (omega arith) (omega arith) in
      let further : (l : List ℕ) → drop (at + 512) l ≡ drop 512 (drop at l) = λ l. sym (drop-drop 512 at l) in
      record {
        blocks =
            ap (λ l. l ++ rest) (taken ∙ ap (λ b. take at lines ++ b) block)
            ∙ append_assoc (take at lines) (block_of (position_byte (i + 1) bar.bar)) rest
            ∙ ap (λ x. take at lines ++ (entry_block (i + 1) (entry_of x) ++ rest)) (sym stands)
            ∙ ap (λ l. take at lines ++ l) (sym (left (λ l. position_blocks (i + 1) (entries_of l))))
            ∙ inv.blocks;
        behind = dropped ∙ further lines ∙ ap (drop 512) inv.behind ∙ sym (further old);
        place = omega (arith, one, left (λ l. standing_in (entries_of l)), inv.place);
        long = same ∙ inv.long;
      }

-- block 0 in front, and the blocks of the positions behind it
pub saved_whole : (p : Plain) (buffer front back head lines : List ℕ) (n : ℕ) → n ≡ standing_in p.entries → length front ≡ 512 → back ≡ drop 512 buffer
    → head ≡ cond (eqb (length front) 512) (block_of (header_byte p.job p.level n)) front
    → lines ≡ position_blocks 1 p.entries ++ drop (512 * standing_in p.entries) back
    → head ++ lines ≡ stored p ++ drop (512 * (1 + standing_in p.entries)) buffer
saved_whole p buffer front back head lines n count long rest header blocks =
    let s : ℕ = standing_in p.entries in
    let behind : drop (512 * s) back ≡ drop (512 * (1 + s)) buffer =
    ap (drop (512 * s)) rest ∙ drop-drop (512 * s) 512 buffer ∙ ap (λ m. drop m buffer) (omega arith) in
    let first : head ≡ block_of (header_byte p.job p.level s) =
    header ∙ cond-true _ _ _ (eq-eqb _ _ long) ∙ ap (λ m. block_of (header_byte p.job p.level m)) count in
    (λ k. first k ++ (blocks ∙ ap (λ l. position_blocks 1 p.entries ++ l) behind) k)
    ∙ sym (append_assoc (block_of (header_byte p.job p.level s)) (position_blocks 1 p.entries) (drop (512 * (1 + s)) buffer))

-- that is what a save answers
pub saved_is : (p : Plain) (buffer after : List ℕ) (n : ℕ) → n ≡ standing_in p.entries → open_ones p.entries ≡ 0 → 512 * (1 + n) ≤ length buffer
    → after ≡ stored p ++ drop (512 * (1 + standing_in p.entries)) buffer
    → saved (Ok (1 + n)) after ≡ saved (saved_blocks p (length buffer)) (buffer_after p buffer (saved_blocks p (length buffer)))
saved_is p buffer after n count shut room whole =
    let s : ℕ = standing_in p.entries in
    let roomy : 512 * (1 + s) ≤ length buffer = omega arith in
    let expected : saved_blocks p (length buffer) ≡ Ok (1 + s) =
    cond-true _ _ _ (eq-eqb _ _ shut) ∙ cond-true _ _ _ (le-leb _ _ roomy) in
    (λ k. saved (Ok (1 + count k)) (whole k)) ∙ ap (λ r. saved r (buffer_after p buffer r)) (sym expected)
