-- What a replay gives back.
use Rattle.std.specs.Prelude.{◌≡◌, ℕ, List, [], map, Ok, Err, vec_items, Result, Vec}
use Rattle.std.specs.declared.alloc.Global.{Global}
use Rattle.feeder.specs.Laws.{Told}
use Rattle.sheet.specs.Calls.{Call}
use Rattle.sheet.specs.Happened.{plain_of}
use Rattle.sheet.specs.Plain.{Plain}
use Rattle.sheet.specs.declared.sheet.Sheet.{Sheet}
use Rattle.sheet.specs.declared.slip.Slip.{Slip}
use Rattle.history.specs.Course.{New}
use Rattle.history.specs.Hand.{Hand, Replayed, answers_made, calls_made, hand_of, open_for, times}
use Rattle.history.specs.Law.{Agreement}
use Rattle.history.specs.Values.{Reply, call_of, reply_of}
use Rattle.history.specs.declared.call.Answer.{Answer as GivenAnswer}
use Rattle.history.specs.declared.call.Call.{Call as AskedCall}
use Rattle.history.specs.declared.replay.NoRoom.{NoRoom}

-- the slips in hand are exactly the open positions of the sheet: one for each, and no other
abbrev pub OutAreOpen : Hand → Plain → Type 0
OutAreOpen h p = (job n : ℕ) → times h job n ≡ open_for p job n

-- a list of calls was carried out on the sheet `before`
pub record Ran {F : Type 0} (meaning : F → ℕ → Told) (before : Sheet F) (hand : Hand) (calls : List Call) (replies : List Reply) (after : Sheet F) (left : Hand) : Type 0 where
  pub replayed : Replayed meaning before hand calls replies after left
  -- from a new sheet: the calls that could be made, and their answers, agree with the rules
  pub agreement : (f : F) (job : ℕ) → New meaning f job before → Agreement meaning f job (calls_made calls replies) (answers_made replies) after
  -- from a new sheet with no slip in hand, the slips that are out are its open positions
  pub slips_out : (f : F) (job : ℕ) → New meaning f job before → hand ≡ [] → OutAreOpen left (plain_of after)

-- on want of memory nothing was done, and the list comes back
abbrev pub ReplayOutcome : {F : Type 0} → (F → ℕ → Told) → Sheet F → List Slip → List AskedCall → Result (Vec GivenAnswer Global) NoRoom → Sheet F → List Slip → Type 0
ReplayOutcome meaning before slips calls (Ok answers) after left =
    Ran meaning before (hand_of slips) (map call_of calls) (map reply_of (vec_items answers)) after (hand_of left)
ReplayOutcome meaning before slips calls (Err back) after left = (after ≡ before) × (left ≡ slips) × (vec_items back.calls ≡ calls)
