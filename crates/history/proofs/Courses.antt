-- What a course of calls keeps, and that the plain sheet goes with it.
use Rattle.std.proofs.Common.{◌≡◌, ℕ, List, [], ◌∷◌, ◌++◌, sym, refl, ap, ◌∙◌}
use Rattle.feeder.specs.Laws.{Told}
use Rattle.sheet.specs.Plain.{Plain}
use Rattle.sheet.specs.Calls.{Call, Answer, step}
use Rattle.sheet.specs.Happened.{Happened, Sound, plain_of}
use Rattle.sheet.specs.declared.sheet.Sheet.{Sheet}
use Rattle.history.specs.Course.{Course, plain_after, plain_answers}

after_more : (tells : ℕ → Told) (p : Plain) (cs : List Call) (c : Call) → plain_after tells p (cs ++ c ∷ []) ≡ (step tells (plain_after tells p cs) c).0
after_more tells p [] c = refl
after_more tells p (d ∷ cs) c = after_more tells (step tells p d).0 cs c

answers_more : (tells : ℕ → Told) (p : Plain) (cs : List Call) (c : Call)
    → plain_answers tells p (cs ++ c ∷ []) ≡ plain_answers tells p cs ++ (step tells (plain_after tells p cs) c).1 ∷ []
answers_more tells p [] c = refl
answers_more tells p (d ∷ cs) c = let rest = answers_more tells (step tells p d).0 cs c in cc

pub record Followed {F : Type 0} (meaning : F → ℕ → Told) (first : Sheet F) (calls : List Call) (answers : List Answer) (last : Sheet F) : Type 0 where
  pub plain : plain_of last ≡ plain_after (meaning first.feeder) (plain_of first) calls
  pub answered : Sound meaning first → answers ≡ plain_answers (meaning first.feeder) (plain_of first) calls
  pub sound : Sound meaning first → Sound meaning last
  pub same_feeder : last.feeder ≡ first.feeder

module _ {F : Type 0} (meaning : F → ℕ → Told) (first : Sheet F) where
  -- one call more
  follow_more : (calls : List Call) (answers : List Answer) (before after : Sheet F) (c : Call) (a : Answer)
      → Followed meaning first calls answers before → Happened meaning before c a after → Followed meaning first (calls ++ c ∷ []) (answers ++ a ∷ []) after
  follow_more calls answers before after c a so_far did =
      let tells : ℕ → Told = meaning first.feeder in
      let start : Plain = plain_of first in
      let here : step (meaning before.feeder) (plain_of before) c ≡ step tells (plain_after tells start calls) c =
      ap (λ f. step (meaning f) (plain_of before) c) so_far.same_feeder ∙ ap (λ p. step tells p c) so_far.plain in
      record {
        plain = did.plain ∙ ap (λ (s : Plain × Answer). s.0) here ∙ sym (after_more tells start calls c);
        answered = λ h.
            ap (λ l. l ++ a ∷ []) (so_far.answered h)
            ∙ ap (λ x. plain_answers tells start calls ++ x ∷ []) (did.answer (so_far.sound h) ∙ ap (λ (s : Plain × Answer). s.1) here)
            ∙ sym (answers_more tells start calls c);
        sound = λ h. did.sound (so_far.sound h);
        same_feeder = did.same_feeder ∙ so_far.same_feeder;
      }

  pub followed : {calls : List Call} {answers : List Answer} {last : Sheet F} → Course meaning first calls answers last → Followed meaning first calls answers last
  followed Course.none = record { plain = refl; answered = λ h. refl; sound = λ h. h; same_feeder = refl }
  followed (Course.more so_far did) = follow_more _ _ _ _ _ _ (followed so_far) did
