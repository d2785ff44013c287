-- The slips in hand while a list of calls is carried out.
use Rattle.std.specs.Prelude.{◌≡◌, ℕ, ◌+◌, ◌-◌, ◌<◌, Bool, true, false, cond, ◌&&◌, ◌||◌, List, [], ◌∷◌, ◌++◌, map, length, Some, None, Option, ◌==◌, slice_index_or}
use Rattle.std.specs.List.{remove}
use Rattle.busbar.specs.declared.record.Record.{Record}
use Rattle.busbar.specs.Rounding.{within}
use Rattle.feeder.specs.Laws.{Told}
use Rattle.sheet.specs.Plain.{Entry, Plain, positions}
use Rattle.sheet.specs.Calls.{Answer, Call}
use Rattle.sheet.specs.Happened.{Happened}
use Rattle.sheet.specs.Stored.{open_one}
use Rattle.sheet.specs.declared.sheet.Sheet.{Sheet}
use Rattle.sheet.specs.declared.slip.Slip.{Slip}
use Rattle.history.specs.Values.{Reply, answer, not_in_hand}

-- a slip counts as its job and position
abbrev pub Hand : Type 0
Hand = List (ℕ × ℕ)

abbrev pub slip_of : Slip → ℕ × ℕ
slip_of s = (s.job, s.position)

abbrev pub hand_of : List Slip → Hand
hand_of slips = map slip_of slips

abbrev pub is_slip : ℕ → ℕ → ℕ × ℕ → Bool
is_slip job n s = s.0 == job && s.1 == n

abbrev pub holds : Hand → ℕ → ℕ → Bool
holds [] job n = false
holds (s ∷ rest) job n = is_slip job n s || holds rest job n

-- the hand after one such slip, the first, was spent
abbrev pub without : Hand → ℕ → ℕ → Hand
without [] job n = []
without (s ∷ rest) job n = cond (is_slip job n s) rest (s ∷ without rest job n)

-- the place of the first such slip, which is the one that is taken
abbrev pub Found : Hand → ℕ → ℕ → Option ℕ → Type 0
Found h job n None = holds h job n ≡ false
Found h job n (Some i) = (i < length h) × (slice_index_or h i (0, 0) ≡ (job, n)) × (holds h job n ≡ true) × (without h job n ≡ remove h i)

-- the call that spends a slip: a close with this record, or a withdrawal
abbrev pub spending : ℕ → ℕ → Option Record → Call
spending job n (Some r) = Call.close job n r
spending job n None = Call.withdraw job n

-- a close or a withdrawal takes its slip in hand
abbrev pub can_be_made : Hand → Call → Bool
can_be_made h (Call.close job n r) = holds h job n
can_be_made h (Call.withdraw job n) = holds h job n
can_be_made h (Call.enter n r) = true
can_be_made h (Call.strike n) = true
can_be_made h (Call.set_level n) = true
can_be_made h (Call.opening n) = true
can_be_made h (Call.save buffer) = true
can_be_made h (Call.load bytes) = true
can_be_made h (Call.ask_position n) = true
can_be_made h Call.ask_counts = true
can_be_made h Call.ask_release = true
can_be_made h Call.ask_level = true
can_be_made h Call.ask_job = true

-- a slip that was given goes to the end, one that was not spent stays where it was

abbrev pub hand_given : Hand → Answer → Hand
hand_given h (Answer.gave_slip job n) = h ++ (job, n) ∷ []
hand_given h Answer.done = h
hand_given h (Answer.refused no_to) = h
hand_given h (Answer.saved blocks buffer) = h
hand_given h (Answer.not_loaded no_to) = h
hand_given h (Answer.shows s) = h
hand_given h (Answer.counted a r o) = h
hand_given h (Answer.says b) = h
hand_given h (Answer.number n) = h

abbrev pub hand_spent : Hand → ℕ → ℕ → Answer → Hand
hand_spent h job n Answer.done = without h job n
hand_spent h job n (Answer.gave_slip j m) = h
hand_spent h job n (Answer.refused no_to) = h
hand_spent h job n (Answer.saved blocks buffer) = h
hand_spent h job n (Answer.not_loaded no_to) = h
hand_spent h job n (Answer.shows s) = h
hand_spent h job n (Answer.counted a r o) = h
hand_spent h job n (Answer.says b) = h
hand_spent h job n (Answer.number m) = h

abbrev pub hand_after : Hand → Call → Answer → Hand
hand_after h (Call.opening n) a = hand_given h a
hand_after h (Call.close job n r) a = hand_spent h job n a
hand_after h (Call.withdraw job n) a = hand_spent h job n a
hand_after h (Call.enter n r) a = h
hand_after h (Call.strike n) a = h
hand_after h (Call.set_level n) a = h
hand_after h (Call.save buffer) a = h
hand_after h (Call.load bytes) a = h
hand_after h (Call.ask_position n) a = h
hand_after h Call.ask_counts a = h
hand_after h Call.ask_release a = h
hand_after h Call.ask_level a = h
hand_after h Call.ask_job a = h

-- what came of one call with these slips in hand: it was made, or its slip was not there and nothing changed
pub data Did {F : Type 0} (meaning : F → ℕ → Told) (before : Sheet F) (h : Hand) (c : Call) : Reply → Sheet F → Hand → Type 0 where
  made : {a : Answer} {after : Sheet F} → can_be_made h c ≡ true → Happened meaning before c a after
      → Did meaning before h c (answer a) after (hand_after h c a)
  not_made : can_be_made h c ≡ false → Did meaning before h c not_in_hand before h

-- a call that needs no slip was made, and changed no hand
abbrev pub Made : {F : Type 0} → (F → ℕ → Told) → Sheet F → Call → Reply → Sheet F → Type 0
Made meaning before c (answer a) after = Happened meaning before c a after
Made meaning before c not_in_hand after = ⊥

-- a list of calls carried out, with the slips in hand before and after
pub data Replayed {F : Type 0} (meaning : F → ℕ → Told) (first : Sheet F) (hand : Hand) : List Call → List Reply → Sheet F → Hand → Type 0 where
  none : Replayed meaning first hand [] [] first hand
  more : {calls : List Call} {replies : List Reply} {before after : Sheet F} {h k : Hand} {c : Call} {r : Reply}
      → Replayed meaning first hand calls replies before h → Did meaning before h c r after k
      → Replayed meaning first hand (calls ++ c ∷ []) (replies ++ r ∷ []) after k

-- the calls that were made, and their answers

abbrev pub calls_made : List Call → List Reply → List Call
calls_made [] rs = []
calls_made (c ∷ cs) [] = []
calls_made (c ∷ cs) (answer a ∷ rs) = c ∷ calls_made cs rs
calls_made (c ∷ cs) (not_in_hand ∷ rs) = calls_made cs rs

abbrev pub answers_made : List Reply → List Answer
answers_made [] = []
answers_made (answer a ∷ rs) = a ∷ answers_made rs
answers_made (not_in_hand ∷ rs) = answers_made rs

-- how many slips of this job and position are in hand, and how many positions are open for them

abbrev pub times_one : Bool → ℕ
times_one true = 1
times_one false = 0

abbrev pub times : Hand → ℕ → ℕ → ℕ
times [] job n = 0
times (s ∷ rest) job n = times_one (is_slip job n s) + times rest job n

abbrev pub open_for : Plain → ℕ → ℕ → ℕ
open_for p job n = cond (job == p.job && within 1 positions n) (open_one (slice_index_or p.entries (n - 1) Entry.empty)) 0
