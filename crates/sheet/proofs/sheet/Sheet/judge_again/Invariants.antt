use Rattle.std.proofs.Common.{◌≡◌, ◌++◌, map, take, drop}
use Rattle.sheet.specs.Position.{again}
use Rattle.sheet.proofs.sheet.Sheet.judge_again.Given as goal

-- the positions passed so far are judged again, and the others as they were
abbrev pub invariant-loop-state : goal.invariant-loop-state
invariant-loop-state g l =
    l.state-items ≡ map (again l.told) (take l.state-index l.initial.state-items) ++ drop l.state-index l.initial.state-items
