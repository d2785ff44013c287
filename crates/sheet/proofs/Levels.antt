-- A revised level, with every verdict worked out again at it.
use Rattle.std.proofs.Common.{◌≡◌, ℕ, ◌≤◌, map, sym, ap, subst, ◌∙◌}
use Rattle.std.proofs.lemmas.Bool.{cond-true}
use Rattle.busbar.specs.declared.ranged.Ranged.{Ranged}
use Rattle.feeder.specs.Laws.{Told}
use Rattle.sheet.specs.Calls.{Answer}
use Rattle.sheet.specs.Calls.Answer.{done}
use Rattle.sheet.specs.Calls.Call.{set_level}
use Rattle.sheet.specs.Plain.{Plain}
use Rattle.sheet.specs.Happened.{Happened, Rejudged, entries_of, plain_of}
use Rattle.sheet.specs.Position.{again}
use Rattle.sheet.specs.declared.sheet.Sheet.{Sheet}
use Rattle.sheet.proofs.Tables.{again_entries, again_sound, same_plain, level_inside_true}

-- a sheet that took the level and was then judged again is what a revised level leaves
pub level_revised : {F : Type 0} (meaning : F → ℕ → Told) (before between after : Sheet F) (level : ℕ) → Rejudged meaning between after
    → between.job ≡ before.job → between.level.value ≡ level → between.feeder ≡ before.feeder → between.table ≡ before.table
    → Happened meaning before (set_level level) done after
level_revised meaning before between after level rejudged job at feeder table =
    let inside = level_inside_true level (subst (λ n. 100 ≤ n) at between.level.least) (subst (λ n. n ≤ 100000) at between.level.most) in
    let told = meaning before.feeder level in
    let same_told : meaning between.feeder between.level.value ≡ told = ap (λ f. meaning f between.level.value) feeder ∙ ap (meaning before.feeder) at in
    let judged : after.table ≡ map (again told) before.table = rejudged.table ∙ ap (λ t. map (again t) between.table) same_told ∙ ap (map (again told)) table in
    record {
      plain =
          same_plain (plain_of after) (record { job = before.job; level = level; entries = entries_of before.table }) (rejudged.same_job ∙ job) (ap (λ (l : Ranged 100 100000). l.value) rejudged.same_level ∙ at) (ap entries_of judged ∙ again_entries told before.table)
          ∙ ap (λ (s : Plain × Answer). s.0) (sym (cond-true _ _ _ inside));
      answer = λ h. ap (λ (s : Plain × Answer). s.1) (sym (cond-true _ _ _ inside));
      sound = λ h.
          ap (λ t. map (again t) after.table)
          (ap (λ f. meaning f after.level.value) (rejudged.same_feeder ∙ feeder) ∙ ap (meaning before.feeder) (ap (λ (l : Ranged 100 100000). l.value) rejudged.same_level ∙ at))
          ∙ ap (map (again told)) judged ∙ again_sound told before.table ∙ sym judged;
      same_feeder = rejudged.same_feeder ∙ feeder;
    }
