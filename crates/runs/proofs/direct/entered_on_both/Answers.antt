use Rattle.history.specs.Course.{Course}
use Rattle.runs.proofs.direct.entered_on_both.Goals as goal

-- one call on each sheet is a course, and the law holds of it
pub returns-clause-law : goal.returns-clause-law
returns-clause-law g c = c.two_boards.ensures _ _ _ _ _ _ _ _ _ _ _ _
    (record { plain = c.new-one.ensures.plain; feeder = c.new-one.ensures.feeder; sound = c.new-one.ensures.sound })
    (Course.more Course.none c.enter.ensures)
    (record { plain = c.new-two.ensures.plain; feeder = c.new-two.ensures.feeder; sound = c.new-two.ensures.sound })
    (Course.more Course.none c.enter-2.ensures)
