-- What comes of two boards: the whole law, on what the run of two lists gives back.
use Rattle.std.specs.Prelude.{◌≡◌, ℕ, ◌+◌, List, [], map, Ok, Err, vec_items, Result, ◌≢◌}
use Rattle.feeder.specs.Laws.{Told}
use Rattle.sheet.specs.Calls.{Call}
use Rattle.sheet.specs.Happened.{plain_of}
use Rattle.sheet.specs.Plain.{Plain}
use Rattle.sheet.specs.declared.sheet.Sheet.{Sheet}
use Rattle.history.specs.Course.{New}
use Rattle.history.specs.Hand.{Hand, Replayed, answers_made, calls_made, hand_of, open_for, times}
use Rattle.history.specs.Law.{Agreement, TwoBoards}
use Rattle.history.specs.Values.{Reply, call_of, reply_of}
use Rattle.history.specs.declared.boards.Both.{Both}
use Rattle.history.specs.declared.both.Board.{Board}
use Rattle.history.specs.declared.both.Hindrance.{Hindrance}
use Rattle.history.specs.declared.both.Hindrance.TheVariants as hindrance
use Rattle.history.specs.declared.both.NotRun.{NotRun}

-- the slips in hand are exactly the open positions of the two sheets
abbrev pub OutOfBoth : Hand → Plain → Plain → Type 0
OutOfBoth h p q = (job n : ℕ) → times h job n ≡ open_for p job n + open_for q job n

-- two new sheets, the first list on the first and then the second list on the second
pub record BothRun {F G : Type 0} (meaning_f : F → ℕ → Told) (f : F) (job_f : ℕ) (calls_f : List Call) (replies_f : List Reply) (s : Sheet F)
    (meaning_g : G → ℕ → Told) (g : G) (job_g : ℕ) (calls_g : List Call) (replies_g : List Reply) (t : Sheet G) (out : Hand) : Type 0 where
  pub first_new : Sheet F
  pub second_new : Sheet G
  -- the slips in hand between the lists
  pub between : Hand
  pub first_begun : New meaning_f f job_f first_new
  pub second_begun : New meaning_g g job_g second_new
  pub first_run : Replayed meaning_f first_new [] calls_f replies_f s between
  pub second_run : Replayed meaning_g second_new between calls_g replies_g t out

-- the law: both boards agree with the rules, neither is softer than the other, and the slips that are out are the open positions
pub record BothLaw {F G : Type 0} (meaning_f : F → ℕ → Told) (f : F) (job_f : ℕ) (calls_f : List Call) (replies_f : List Reply) (s : Sheet F)
    (meaning_g : G → ℕ → Told) (g : G) (job_g : ℕ) (calls_g : List Call) (replies_g : List Reply) (t : Sheet G) (out : Hand) : Type 0 where
  pub run : BothRun meaning_f f job_f calls_f replies_f s meaning_g g job_g calls_g replies_g t out
  pub first_agrees : Agreement meaning_f f job_f (calls_made calls_f replies_f) (answers_made replies_f) s
  pub second_agrees : Agreement meaning_g g job_g (calls_made calls_g replies_g) (answers_made replies_g) t
  pub no_softer : TwoBoards meaning_f f meaning_g g s t
  pub slips_out : OutOfBoth out (plain_of s) (plain_of t)

abbrev pub BothRan : {F G : Type 0} → (F → ℕ → Told) → (G → ℕ → Told) → Board F → Board G → Both F G → Type 0
BothRan meaning_f meaning_g first second r =
    BothLaw meaning_f first.feeder first.job (map call_of (vec_items first.calls)) (map reply_of (vec_items r.first_answers)) r.first
    meaning_g second.feeder second.job (map call_of (vec_items second.calls)) (map reply_of (vec_items r.second_answers)) r.second
    (hand_of (vec_items r.slips))

-- of one job number they are refused; else only memory can be wanting
abbrev pub Hindered : ℕ → ℕ → Hindrance → Type 0
Hindered i j hindrance.SameJob = i ≡ j
Hindered i j hindrance.Memory = i ≡ j → ⊥

-- where nothing was run, both boards come back as they were
abbrev pub BothOutcome : {F G : Type 0} → (F → ℕ → Told) → (G → ℕ → Told) → Board F → Board G → Result (Both F G) (NotRun F G) → Type 0
BothOutcome meaning_f meaning_g first second (Ok r) = (first.job ≢ second.job) × BothRan meaning_f meaning_g first second r
BothOutcome meaning_f meaning_g first second (Err back) =
    Hindered first.job second.job back.why × (back.first ≡ first) × (back.second ≡ second)
