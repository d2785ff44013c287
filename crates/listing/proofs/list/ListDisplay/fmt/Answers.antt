use Rattle.std.proofs.Common.{rules, ◌++◌}
use Rattle.std.specs.Prelude.{codes}
use Rattle.std.proofs.Output.{has_written_append, has_written_of_eq}
use Rattle.listing.specs.Text.{line_text}
use Rattle.listing.proofs.Lines.{at_the_end, line_more, nothing_more}
use Rattle.listing.proofs.list.ListDisplay.fmt.Goals as goal
use Rattle.listing.proofs.list.ListDisplay.fmt.Goals.{in-Some+in_ok-writeln, in_default}

pub loop-before-preserved : goal.loop-before-preserved
loop-before-preserved g c plain = let so_far = c.loop-before.invariant plain in let list = c.args.self.now in elim c.match-of.branch [
  | in-Some+in_ok-writeln w ↦ (
    so_far.0 ++ (line_text w.in-Some.line ++ codes "\n"),
    has_written_append _ _ _ _ _ _ so_far.1 (search rules),
    line_more list.told list.states.now c.loop-before.before c.state-item.result _ _ (search rules) (search rules) so_far.2,
  )
  | in_default w ↦
      (so_far.0, search (rules, so_far), nothing_more list.told list.states.now c.loop-before.before c.state-item.result _ _ (search rules) (search rules) so_far.2)
]

pub returns-clause-writes : goal.returns-clause-writes
returns-clause-writes g c plain done = let so_far = c.loop-before.invariant plain in let list = c.args.self.now in
    has_written_of_eq _ _ _ _ _ (at_the_end list.told list.states.now c.loop-before.before _ _ (search rules) so_far.2) so_far.1
