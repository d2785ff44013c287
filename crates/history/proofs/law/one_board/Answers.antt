use Rattle.history.proofs.law.one_board.Goals as goal
use Rattle.history.proofs.Verdicts.{agrees}

pub returns : goal.returns
returns g c f job new s calls answers begun course = agrees g.F.Feeder.meaning f job new s calls answers begun course
