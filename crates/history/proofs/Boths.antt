-- The law over the runs of two boards.
use Rattle.std.proofs.Common.{◌≡◌, ℕ, Bool, false, cond, ◌≢◌, eqb, List, [], Result, sym, refl, ap, ◌∙◌, subst, arith}
use Rattle.std.proofs.lemmas.Bool.{ne_eqb}
use Rattle.busbar.specs.declared.question.Question.{Question}
use Rattle.busbar.specs.declared.question.Question.TheVariants as q
use Rattle.feeder.specs.Laws.{Lawful, Told, level_inside}
use Rattle.sheet.specs.Calls.{Answer, Call, settle, settle_load, step}
use Rattle.sheet.specs.Happened.{Sound, plain_of}
use Rattle.sheet.specs.Plain.{Entry, Plain, change_at, change_by_slip, fresh}
use Rattle.sheet.specs.Stored.{LoadNo, load_of}
use Rattle.sheet.specs.declared.position.Change.TheVariants as change
use Rattle.sheet.specs.declared.sheet.Sheet.{Sheet}
use Rattle.sheet.specs.declared.slip.Slip.{Slip}
use Rattle.history.specs.Both.{BothLaw, BothRun, OutOfBoth}
use Rattle.history.specs.Course.{Course}
use Rattle.history.specs.Hand.{Hand, Replayed, answers_made, calls_made, hand_of}
use Rattle.history.specs.Values.{Reply}
use Rattle.history.proofs.Replays.{course_of, new_shut, replay_balances}
use Rattle.history.proofs.Verdicts.{agrees, both_boards}

-- no call changes the job

settled_job : (p : Plain) (a : Answer) (r : Result (List Entry) Question) → (settle p a r).0.job ≡ p.job
settled_job p a r = grind arith

loaded_job : (p : Plain) (r : Result (ℕ × List Entry) LoadNo) → (settle_load p r).0.job ≡ p.job
loaded_job p r = grind arith

level_job : (p : Plain) (b : Bool) (level : ℕ) → (cond {A = Plain × Answer} b (record { job = p.job; level = level; entries = p.entries }, Answer.done) (p, Answer.refused q.Level)).0.job ≡ p.job
level_job p b level = grind arith

step_job : (tells : ℕ → Told) (p : Plain) (c : Call) → (step tells p c).0.job ≡ p.job
step_job tells p (Call.enter m r) = settled_job p Answer.done (change_at q.PositionNumber p.entries m (change.Enter r))
step_job tells p (Call.strike m) = settled_job p Answer.done (change_at q.PositionNumber p.entries m change.Strike)
step_job tells p (Call.set_level level) = level_job p (level_inside level) level
step_job tells p (Call.opening m) = settled_job p (Answer.gave_slip p.job m) (change_at q.PositionNumber p.entries m change.Open)
step_job tells p (Call.close j m r) = settled_job p Answer.done (change_by_slip p j m (change.Close r))
step_job tells p (Call.withdraw j m) = settled_job p Answer.done (change_by_slip p j m change.Withdraw)
step_job tells p (Call.save buffer) = refl
step_job tells p (Call.load bytes) = loaded_job p (load_of p bytes)
step_job tells p (Call.ask_position m) = refl
step_job tells p Call.ask_counts = refl
step_job tells p Call.ask_release = refl
step_job tells p Call.ask_level = refl
step_job tells p Call.ask_job = refl

pub course_job : {F : Type 0} (meaning : F → ℕ → Told) (first : Sheet F) {calls : List Call} {answers : List Answer} {last : Sheet F} → Course meaning first calls answers last → last.job ≡ first.job
course_job meaning first Course.none = refl
course_job meaning first (Course.more {before = b} {c = c} so_far did) =
    ap (λ (p : Plain). p.job) did.plain ∙ step_job (meaning b.feeder) (plain_of b) c ∙ course_job meaning first so_far

-- the run of the code: new sheets, no slip in hand at first
module _ {F G : Type 0} (meaning_f : F → ℕ → Told) (law_f : (f : F) → Lawful (meaning_f f)) (meaning_g : G → ℕ → Told) (law_g : (g : G) → Lawful (meaning_g g))
    (f : F) (job_f : ℕ) (calls_f : List Call) (replies_f : List Reply) (new_f s : Sheet F) (g : G) (job_g : ℕ) (calls_g : List Call) (replies_g : List Reply) (new_g t : Sheet G)
    (slips between : List Slip) (out : Hand) (none_out : slips ≡ [])
    (one : Replayed meaning_f new_f (hand_of slips) calls_f replies_f s (hand_of between)) (two : Replayed meaning_g new_g (hand_of between) calls_g replies_g t out)
    (plain_f : plain_of new_f ≡ fresh job_f) (feeder_f : new_f.feeder ≡ f) (sound_f : Sound meaning_f new_f)
    (plain_g : plain_of new_g ≡ fresh job_g) (feeder_g : new_g.feeder ≡ g) (sound_g : Sound meaning_g new_g) where
  abbrev run : BothRun meaning_f f job_f calls_f replies_f s meaning_g g job_g calls_g replies_g t out
  run = record {
    first_new = new_f;
    second_new = new_g;
    between = hand_of between;
    first_begun = record { plain = plain_f; feeder = feeder_f; sound = sound_f };
    second_begun = record { plain = plain_g; feeder = feeder_g; sound = sound_g };
    first_run = subst (λ l. Replayed meaning_f new_f (hand_of l) calls_f replies_f s (hand_of between)) none_out one;
    second_run = two;
  }

  first_course : Course meaning_f run.first_new (calls_made calls_f replies_f) (answers_made replies_f) s
  first_course = course_of meaning_f run.first_new [] run.first_run

  second_course : Course meaning_g run.second_new (calls_made calls_g replies_g) (answers_made replies_g) t
  second_course = course_of meaning_g run.second_new run.between run.second_run

  pub both_out : OutOfBoth out (plain_of s) (plain_of t)
  both_out job n =
      let first = replay_balances meaning_f run.first_new [] run.first_begun.sound run.first_run job n in
      let second = replay_balances meaning_g run.second_new run.between run.second_begun.sound run.second_run job n in
      omega (arith, first, second, new_shut meaning_f f job_f run.first_new run.first_begun job n, new_shut meaning_g g job_g run.second_new run.second_begun job n)

  pub both_ran : BothLaw meaning_f f job_f calls_f replies_f s meaning_g g job_g calls_g replies_g t out
  both_ran =
      record {
        run = run;
        first_agrees = agrees meaning_f f job_f run.first_new s _ _ run.first_begun first_course;
        second_agrees = agrees meaning_g g job_g run.second_new t _ _ run.second_begun second_course;
        no_softer = both_boards meaning_f law_f meaning_g law_g f g run.first_new s run.second_new t run.first_begun first_course run.second_begun second_course;
        slips_out = both_out;
      }

  -- each sheet has the job that it was made for
  pub both_apart : job_f ≢ job_g → eqb s.job t.job ≡ false
  both_apart differ =
      let job_s : s.job ≡ job_f = course_job meaning_f run.first_new first_course ∙ ap (λ (p : Plain). p.job) run.first_begun.plain in
      let job_t : t.job ≡ job_g = course_job meaning_g run.second_new second_course ∙ ap (λ (p : Plain). p.job) run.second_begun.plain in
      ne_eqb _ _ (λ same. differ (sym job_s ∙ same ∙ job_t))

pub ruleset boths = (both_ran, both_out, both_apart)
