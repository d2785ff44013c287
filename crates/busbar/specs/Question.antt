-- The number of each question, and what asking it comes to.
use Rattle.std.specs.Prelude.{ℕ, Bool, true, false, Ok, Err, Result}
use Rattle.busbar.specs.declared.question.Question.{Question}
use Rattle.busbar.specs.declared.question.Question.TheVariants as q

abbrev pub number_of : Question → ℕ
number_of q.SectionFigures = 10
number_of q.Span = 11
number_of q.CentreDistance = 12
number_of q.DistanceFactor = 13
number_of q.YieldStress = 14
number_of q.RatedDensity = 15
number_of q.SupportStrength = 16
number_of q.PieceSpacing = 17
number_of q.PositionNumber = 18
number_of q.PositionEmpty = 19
number_of q.PositionStanding = 20
number_of q.Level = 21
number_of q.SlipFits = 22
number_of q.NothingOpen = 23
number_of q.BufferRoom = 24
number_of q.StoredLength = 30
number_of q.BlockCheck = 31
number_of q.BlockLayout = 32
number_of q.SameJob = 33
number_of q.GridSize = 40
number_of q.MotorsSize = 41
number_of q.CurvePoint = 42
number_of q.SectionSize = 43
number_of q.StackSize = 44

-- a yes, or the question that got a no
abbrev pub asked : Question → Bool → Result (Unit {0}) Question
asked question true = Ok tt
asked question false = Err question
