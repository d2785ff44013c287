use Rattle.history.proofs.law.two_boards.Goals as goal
use Rattle.history.proofs.Verdicts.{both_boards}

pub returns : goal.returns
returns g c f job_f new_f s calls_f answers_f h job_g new_g t calls_g answers_g begun_f course_f begun_g course_g =
    both_boards g.F.Feeder.meaning g.met.F.Feeder.lawful g.G.Feeder.meaning g.met.G.Feeder.lawful f h new_f s new_g t begun_f course_f begun_g course_g
