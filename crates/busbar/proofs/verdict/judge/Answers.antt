use Rattle.std.proofs.Common.{sym, subst}
use Rattle.busbar.specs.Exact.{Exact}
use Rattle.busbar.specs.Harder.{NoSofterThanEasier}
use Rattle.busbar.proofs.Exactness.{exact}
use Rattle.busbar.proofs.Softness.{no_softer}
use Rattle.busbar.proofs.verdict.judge.Goals as goal

pub returns : goal.returns
returns c =
    let bar = c.args.bar.now in
    let is = c.judged.ensures in
    record {
      value = is;
      exact = subst (Exact bar.bar c.args.told) (sym is) (exact bar.bar bar.passed c.args.told);
      harder = subst (NoSofterThanEasier bar.bar c.args.told) (sym is) (no_softer bar.bar c.args.told bar.passed);
    }
