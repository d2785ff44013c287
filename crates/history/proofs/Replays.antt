-- What a replay keeps: the calls that were made are a course, and the slips go with the open positions.
use Rattle.std.proofs.Common.{◌≡◌, ℕ, ◌+◌, List, [], ◌∷◌, ◌++◌, map, length, sym, refl, ap, ◌∙◌, subst, append-nil, arith}
use lib.ListN.{length-map}
use Rattle.std.proofs.lemmas.List.{length_push, map_push}
use Rattle.feeder.specs.Laws.{Told}
use Rattle.sheet.specs.Calls.{Call, step}
use Rattle.sheet.specs.Happened.{Sound, plain_of}
use Rattle.sheet.specs.Plain.{Plain, fresh, positions}
use Rattle.sheet.specs.Position.{entry_of}
use Rattle.sheet.specs.declared.sheet.Sheet.{Sheet}
use Rattle.sheet.specs.declared.slip.Slip.{Slip}
use Rattle.history.specs.Course.{Course, New}
use Rattle.history.specs.Hand.{Did, Hand, Replayed, answers_made, calls_made, hand_after, hand_of, open_for, times}
use Rattle.history.specs.Ran.{Ran}
use Rattle.history.specs.Values.{Reply, answer, call_of, not_in_hand, reply_of}
use Rattle.history.specs.declared.call.Answer.{Answer as GivenAnswer}
use Rattle.history.specs.declared.call.Call.{Call as AskedCall}
use Rattle.history.proofs.Courses.{followed}
use Rattle.history.proofs.Loads.{blank_shut, none_open}
use Rattle.history.proofs.Steps.{Balanced, step_balances}
use Rattle.history.proofs.Verdicts.{agrees}

-- no call yet
pub replayed_none : {F : Type 0} (meaning : F → ℕ → Told) (first : Sheet F) (hand : Hand) (answers : List GivenAnswer) → answers ≡ []
    → Replayed meaning first hand [] (map reply_of answers) first hand
replayed_none meaning first hand answers none = rw none Replayed.none

-- one call more, as the code has it
pub replayed_more : {F : Type 0} (meaning : F → ℕ → Told) (first before after : Sheet F) (hand h k : Hand) (calls : List AskedCall) (answers more : List GivenAnswer) (c : AskedCall) (a : GivenAnswer)
    → Replayed meaning first hand (map call_of calls) (map reply_of answers) before h → Did meaning before h (call_of c) (reply_of a) after k → more ≡ answers ++ a ∷ []
    → Replayed meaning first hand (map call_of (calls ++ c ∷ [])) (map reply_of more) after k
replayed_more meaning first before after hand h k calls answers more c a so_far did is =
    rw (is, map_push call_of calls c, map_push reply_of answers a) (Replayed.more so_far did)

pub ruleset replaying = (replayed_none, replayed_more, length_push)

-- the calls that were made, one more

calls_more : (cs : List Call) (rs : List Reply) (c : Call) (r : Reply) → length cs ≡ length rs → calls_made (cs ++ c ∷ []) (rs ++ r ∷ []) ≡ calls_made cs rs ++ calls_made (c ∷ []) (r ∷ [])
calls_more [] [] c r same = refl
calls_more [] (x ∷ rs) c r same = absurd (omega arith)
calls_more (d ∷ cs) [] c r same = absurd (omega arith)
calls_more (d ∷ cs) (answer a ∷ rs) c r same = let rest = calls_more cs rs c r (omega arith) in cc
calls_more (d ∷ cs) (not_in_hand ∷ rs) c r same = calls_more cs rs c r (omega arith)

answers_more : (rs : List Reply) (r : Reply) → answers_made (rs ++ r ∷ []) ≡ answers_made rs ++ answers_made (r ∷ [])
answers_more [] r = refl
answers_more (answer a ∷ rs) r = let rest = answers_more rs r in cc
answers_more (not_in_hand ∷ rs) r = answers_more rs r

module _ {F : Type 0} (meaning : F → ℕ → Told) (first : Sheet F) (hand : Hand) where
  pub as_many : {calls : List Call} {replies : List Reply} {last : Sheet F} {left : Hand} → Replayed meaning first hand calls replies last left → length calls ≡ length replies
  as_many Replayed.none = refl
  as_many (Replayed.more {calls = cs} {replies = rs} {c = c} {r = r} so_far did) = length_push cs c ∙ ap (λ m. m + 1) (as_many so_far) ∙ sym (length_push rs r)

  course_more : (cs : List Call) (rs : List Reply) (before after : Sheet F) (h k : Hand) (c : Call) (r : Reply)
      → Course meaning first (calls_made cs rs) (answers_made rs) before → Did meaning before h c r after k
      → Course meaning first (calls_made cs rs ++ calls_made (c ∷ []) (r ∷ [])) (answers_made rs ++ answers_made (r ∷ [])) after
  course_more cs rs before after h k c r so_far (Did.made can did) = Course.more so_far did
  course_more cs rs before after h k c r so_far (Did.not_made cannot) = simp append-nil so_far

  pub course_of : {calls : List Call} {replies : List Reply} {last : Sheet F} {left : Hand} → Replayed meaning first hand calls replies last left
      → Course meaning first (calls_made calls replies) (answers_made replies) last
  course_of Replayed.none = Course.none
  course_of (Replayed.more {calls = cs} {replies = rs} {before = b} {after = e} {h = h} {k = k} {c = c} {r = r} so_far did) =
      rw (calls_more cs rs c r (as_many so_far), answers_more rs r) (course_more cs rs b e h k c r (course_of so_far) did)

  -- slips and open positions

  did_balances : (before after : Sheet F) (h k : Hand) (c : Call) (r : Reply) → Sound meaning before → Did meaning before h c r after k → (job n : ℕ) → Balanced h (plain_of before) k (plain_of after) job n
  did_balances before after h k c r sound (Did.made {a = a} can did) job n =
      let tells : ℕ → Told = meaning before.feeder in
      let p : Plain = plain_of before in
      let full : length p.entries ≡ 32 = length-map before.table entry_of ∙ before.full in
      subst (λ x. Balanced h p (hand_after h c x) (plain_of after) job n) (sym (did.answer sound))
      (subst (λ x. Balanced h p (hand_after h c (step tells p c).1) x job n) (sym did.plain) (step_balances p h job n full tells c can))
  did_balances before after h k c r sound (Did.not_made cannot) job n = refl

  pub replay_balances : {calls : List Call} {replies : List Reply} {last : Sheet F} {left : Hand} → Sound meaning first → Replayed meaning first hand calls replies last left
      → (job n : ℕ) → Balanced hand (plain_of first) left (plain_of last) job n
  replay_balances sound Replayed.none job n = refl
  replay_balances sound (Replayed.more {before = b} {after = e} {h = h} {k = k} {c = c} {r = r} so_far did) job n =
      let earlier = replay_balances sound so_far job n in
      let now_so = did_balances b e h k c r ((followed meaning first (course_of so_far)).sound sound) did job n in
      omega (arith, earlier, now_so)

-- a new sheet has nothing open
pub new_shut : {F : Type 0} (meaning : F → ℕ → Told) (f : F) (job : ℕ) (s : Sheet F) → New meaning f job s → (j n : ℕ) → open_for (plain_of s) j n ≡ 0
new_shut meaning f job s new j n = ap (λ p. open_for p j n) new.plain ∙ none_open (fresh job) j n (blank_shut positions)

-- from the slips as they were before the room was reserved
pub ran : {F : Type 0} (meaning : F → ℕ → Told) (first last : Sheet F) (slips seen : List Slip) (calls : List Call) (replies : List Reply) (left : Hand)
    → seen ≡ slips → Replayed meaning first (hand_of seen) calls replies last left → Ran meaning first (hand_of slips) calls replies last left
ran meaning first last slips seen calls replies left all so_far =
    let run : Replayed meaning first (hand_of slips) calls replies last left = subst (λ l. Replayed meaning first (hand_of l) calls replies last left) all so_far in
    record {
      replayed = run;
      agreement = λ f job new. agrees meaning f job first last (calls_made calls replies) (answers_made replies) new (course_of meaning first (hand_of slips) run);
      slips_out = λ f job new none j n.
          let balance = replay_balances meaning first (hand_of slips) new.sound run j n in
          omega (arith, balance, new_shut meaning f job first new j n, ap (λ h. times h j n) none);
    }
