-- A bar as most boards hold it, whatever its section.
use Rattle.std.specs.Prelude.{false}
use Rattle.busbar.specs.declared.record.FaultKind.TheVariants.{ThreePhase}
use Rattle.busbar.specs.declared.record.Record.{Record}
use Rattle.busbar.specs.declared.record.Scheme.TheVariants.{MoreSpans}
use Rattle.busbar.specs.declared.section.Section.{Section}

abbrev pub held : Section → Record
held s = record {
  kind = ThreePhase;
  scheme = MoreSpans;
  reclosing = false;
  span = 1000;
  centre_distance = 200;
  distance_factor = 1000;
  yield_stress = 120;
  rated_density = 100;
  support_strength = 3000;
  section = s;
}
