-- The standing verdicts of a sound sheet, of one board and of two.
use Rattle.std.proofs.Common.{◌≡◌, ℕ, ◌-◌, ◌<◌, ◌≤◌, List, length, get_or, sym, ap, ◌∙◌, subst, arith}
use Rattle.std.proofs.lemmas.List.{get_or-map}
use Rattle.std.proofs.lemmas.Bool.Decides.{nat_tests}
use Rattle.busbar.specs.Exact.{Exact}
use Rattle.busbar.specs.Harder.{NoEasier, NoSofter}
use Rattle.busbar.specs.Verdict.{Verdict, figures_told, verdict}
use Rattle.busbar.specs.declared.checked.CheckedRecord.{CheckedRecord}
use Rattle.busbar.proofs.Exactness.{exact}
use Rattle.busbar.proofs.Softness.{no_softer}
use Rattle.feeder.specs.Laws.{InRanges, Lawful, Told}
use Rattle.sheet.specs.Calls.{Answer, Call}
use Rattle.sheet.specs.Happened.{Sound, plain_of}
use Rattle.sheet.specs.Position.{again}
use Rattle.sheet.specs.declared.position.State.{State}
use Rattle.sheet.specs.declared.position.State.TheVariants as state
use Rattle.sheet.specs.declared.sheet.Sheet.{Sheet}
use Rattle.history.specs.Course.{Course, New, plain_after, plain_answers}
use Rattle.history.specs.Law.{Agreement, NoSofterThan, StandsAt, TwoBoards}
use Rattle.history.proofs.Courses.{Followed, followed}

-- the verdict that a state holds
abbrev verdict_in : Verdict → State → Verdict
verdict_in other state.Empty = other
verdict_in other (state.Standing x v) = v
verdict_in other (state.Open x) = other

-- of a sound sheet it is the definitions'
pub stands_right : {F : Type 0} (meaning : F → ℕ → Told) (s : Sheet F) (n : ℕ) (x : CheckedRecord) (v : Verdict)
    → Sound meaning s → StandsAt s n x v → v ≡ verdict x.bar (meaning s.feeder s.level.value)
stands_right meaning s n x v sound at =
    let told : Told = meaning s.feeder s.level.value in
    let low : 1 ≤ n = at.low in
    let high : n ≤ 32 = at.high in
    let full : length s.table ≡ 32 = s.full in
    let inside : n - 1 < length s.table = omega arith in
    let d : State = state.Empty in
    let same : again told (get_or s.table (n - 1) d) ≡ get_or s.table (n - 1) d =
    sym (get_or-map (again told) s.table (n - 1) d d inside) ∙ ap (λ l. get_or l (n - 1) d) sound in
    sym (ap (verdict_in v) same ∙ ap (verdict_in v) at.state_is)
    ∙ ap (λ p. verdict_in v (again told p)) at.state_is

pub agrees : {F : Type 0} (meaning : F → ℕ → Told) (f : F) (job : ℕ) (new s : Sheet F) (calls : List Call) (answers : List Answer)
    → New meaning f job new → Course meaning new calls answers s → Agreement meaning f job calls answers s
agrees meaning f job new s calls answers begun course =
    let went : Followed meaning new calls answers s = followed meaning new course in
    let feeder : s.feeder ≡ f = went.same_feeder ∙ begun.feeder in
    record {
      same_answers =
          went.answered begun.sound ∙ ap (λ g. plain_answers (meaning g) (plain_of new) calls) begun.feeder
          ∙ ap (λ p. plain_answers (meaning f) p calls) begun.plain;
      same_plain =
          went.plain ∙ ap (λ g. plain_after (meaning g) (plain_of new) calls) begun.feeder
          ∙ ap (λ p. plain_after (meaning f) p calls) begun.plain;
      same_feeder = feeder;
      verdicts_right = λ n x v at.
          let is : v ≡ verdict x.bar (meaning f s.level.value) =
          stands_right meaning s n x v (went.sound begun.sound) at ∙ ap (λ g. verdict x.bar (meaning g s.level.value)) feeder in
          record {
            defined = is;
            exact = subst (Exact x.bar (meaning f s.level.value)) (sym is) (exact x.bar x.passed (meaning f s.level.value));
          };
    }

-- what a feeder tells counts as it is
counts_as_told : (told : Told) → InRanges told → figures_told told ≡ told
counts_as_told told in_ranges = grind (arith, nat_tests)

-- of two verdicts by one meaning, the one on the harder duty is no softer
softer_not : (tells : ℕ → Told) → Lawful tells → (high low : ℕ) (x y : CheckedRecord) → 100 ≤ low → low ≤ high → NoEasier x.bar y.bar
    → NoSofter (verdict x.bar (tells high)) (verdict y.bar (tells low))
softer_not tells law high low x y least below harder =
    no_softer x.bar (tells high) x.passed y.bar (tells low) y.passed harder
    (rw (counts_as_told (tells high) (law.in_ranges high), counts_as_told (tells low) (law.in_ranges low)) (law.rises low high least below))

-- no board is softer than another whose feeder means the same
no_softer_than : {F G : Type 0} (meaning_f : F → ℕ → Told) (meaning_g : G → ℕ → Told) (f : F) (g : G) (s : Sheet F) (t : Sheet G)
    → Lawful (meaning_f f) → ((level : ℕ) → meaning_f f level ≡ meaning_g g level)
    → Sound meaning_f s → s.feeder ≡ f → Sound meaning_g t → t.feeder ≡ g → NoSofterThan s t
no_softer_than meaning_f meaning_g f g s t law same sound_s is_f sound_t is_g n m x y v w at_s at_t harder below =
    let right_v : v ≡ verdict x.bar (meaning_f f s.level.value) =
    stands_right meaning_f s n x v sound_s at_s ∙ ap (λ h. verdict x.bar (meaning_f h s.level.value)) is_f in
    let right_w : w ≡ verdict y.bar (meaning_f f t.level.value) =
    stands_right meaning_g t m y w sound_t at_t ∙ ap (λ h. verdict y.bar (meaning_g h t.level.value)) is_g ∙ ap (verdict y.bar) (sym (same t.level.value)) in
    rw (right_v, right_w) (softer_not (meaning_f f) law s.level.value t.level.value x y t.level.least below harder)

pub both_boards : {F G : Type 0} (meaning_f : F → ℕ → Told) → ((f : F) → Lawful (meaning_f f)) → (meaning_g : G → ℕ → Told) → ((g : G) → Lawful (meaning_g g))
    → (f : F) (g : G) (new_f s : Sheet F) (new_g t : Sheet G) {job_f job_g : ℕ} {calls_f calls_g : List Call} {answers_f answers_g : List Answer}
    → New meaning_f f job_f new_f → Course meaning_f new_f calls_f answers_f s
    → New meaning_g g job_g new_g → Course meaning_g new_g calls_g answers_g t
    → TwoBoards meaning_f f meaning_g g s t
both_boards meaning_f law_f meaning_g law_g f g new_f s new_g t begun_f course_f begun_g course_g =
    let went_f = followed meaning_f new_f course_f in
    let went_g = followed meaning_g new_g course_g in
    let sound_s = went_f.sound begun_f.sound in
    let sound_t = went_g.sound begun_g.sound in
    let is_f = went_f.same_feeder ∙ begun_f.feeder in
    let is_g = went_g.same_feeder ∙ begun_g.feeder in
    record {
      first_no_softer = λ same. no_softer_than meaning_f meaning_g f g s t (law_f f) same sound_s is_f sound_t is_g;
      second_no_softer = λ same. no_softer_than meaning_g meaning_f g f t s (law_g g) (λ level. sym (same level)) sound_t is_g sound_s is_f;
    }
