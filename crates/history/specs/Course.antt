-- A list of calls on one sheet, and the plain sheet after the same list.
use Rattle.std.specs.Prelude.{◌≡◌, ℕ, List, [], ◌∷◌, ◌++◌}
use Rattle.feeder.specs.Laws.{Told}
use Rattle.sheet.specs.Plain.{Plain, fresh}
use Rattle.sheet.specs.Calls.{Call, Answer, step}
use Rattle.sheet.specs.Happened.{Happened, Sound, plain_of}
use Rattle.sheet.specs.declared.sheet.Sheet.{Sheet}

-- the plain sheet after a list of calls, and the answers in order

abbrev pub plain_after : (ℕ → Told) → Plain → List Call → Plain
plain_after tells p [] = p
plain_after tells p (c ∷ rest) = plain_after tells (step tells p c).0 rest

abbrev pub plain_answers : (ℕ → Told) → Plain → List Call → List Answer
plain_answers tells p [] = []
plain_answers tells p (c ∷ rest) = (step tells p c).1 ∷ plain_answers tells (step tells p c).0 rest

-- the sheet `first` came to be the sheet `last` by these calls, one after the other, with these answers
pub data Course {F : Type 0} (meaning : F → ℕ → Told) (first : Sheet F) : List Call → List Answer → Sheet F → Type 0 where
  none : Course meaning first [] [] first
  more : {calls : List Call} {answers : List Answer} {before after : Sheet F} {c : Call} {a : Answer}
      → Course meaning first calls answers before → Happened meaning before c a after
      → Course meaning first (calls ++ c ∷ []) (answers ++ a ∷ []) after

-- a new sheet of a job under a feeder
pub record New {F : Type 0} (meaning : F → ℕ → Told) (f : F) (job : ℕ) (s : Sheet F) : Type 0 where
  pub plain : plain_of s ≡ fresh job
  pub feeder : s.feeder ≡ f
  pub sound : Sound meaning s
