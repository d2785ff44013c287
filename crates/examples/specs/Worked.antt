-- Worked boards: what the definitions give for a few bars, feeders and a new sheet, figure by figure.
use Rattle.std.specs.Prelude.{◌≡◌, ℕ, true, false, List, [], ◌∷◌, length, take, drop, Some, None, Ok}
use Rattle.busbar.specs.Figures.{current_force, span_force, sub_force, main_stress_of, sub_stress_of, support_load_of}
use Rattle.busbar.specs.Record.{passes}
use Rattle.busbar.specs.Section.{bar_section, stack_section, tube_section}
use Rattle.busbar.specs.Verdict.{Verdict, heat_limit, plastic_limit, refused_on, verdict}
use Rattle.busbar.specs.declared.record.FaultKind.TheVariants.{ThreePhase}
use Rattle.busbar.specs.declared.record.Record.{Record}
use Rattle.busbar.specs.declared.section.Section.{Section}
use Rattle.busbar.specs.declared.verdict.Ground.TheVariants as grounds
use Rattle.feeder.specs.Fuse.{fuse_tells, in_order}
use Rattle.feeder.specs.Grid.{grid_sizes, grid_tells}
use Rattle.feeder.specs.Laws.{Told}
use Rattle.feeder.specs.Motors.{motors_sizes, motors_tell}
use Rattle.feeder.specs.declared.point.Point.{Point}
use Rattle.stored.specs.Block.{check_of}
use Rattle.samples.specs.Held.{held as usual}
use Rattle.sheet.specs.Plain.{Plain, fresh}
use Rattle.sheet.specs.Stored.{saved_blocks, stored}

-- Sections. Moduli are in thousandths of mm³, areas in thousandths of mm², plastic factors in ten-thousandths.

-- a bar 60 by 10
abbrev pub bar_60_by_10 : Section
bar_60_by_10 = record { modulus = 1_000_000; area = 600_000; plastic_factor = 15_000; round = false; sub_bars = None }

-- two of them, one thickness apart, with connecting pieces every 500 mm
abbrev pub two_60_by_10 : Section
two_60_by_10 = record {
  modulus = 2_000_000;
  area = 1_200_000;
  plastic_factor = 15_000;
  round = false;
  sub_bars = Some (record { count = 2; modulus = 1_000_000; distance = 34; spacing = 500 });
}

-- a tube of diameter 50 with a wall of 5
abbrev pub tube_50_by_5 : Section
tube_50_by_5 = record { modulus = 7_245_291; area = 706_857; plastic_factor = 14_051; round = true; sub_bars = None }

-- Bars. All are held in three spans or more of 1,000 mm, 200 mm apart, and judged for a three-phase fault without reclosing.

-- a bar of this section, with yield stress f in N/mm² and support strength P in N; for one second it bears 100 A/mm²
abbrev pub held : Section → ℕ → ℕ → Record
held of_section f P = record (usual of_section) { yield_stress = f; support_strength = P }

abbrev pub main_bar : ℕ → ℕ → Record
main_bar f P = held bar_60_by_10 f P

abbrev pub stacked_bar : ℕ → ℕ → Record
stacked_bar f P = held two_60_by_10 f P

-- What is told of the fault: a peak in A and a heat in A²·ms.

-- the peak of the worked bars
abbrev pub fault_peak : ℕ
fault_peak = 30_000

-- that peak, with a heat that every bar here bears
abbrev pub fault : Told
fault = Some (fault_peak, 1_000_000_000)

-- a peak that no bar here minds, with this heat
abbrev pub fault_of_heat : ℕ → Told
fault_of_heat Q = Some (1, Q)

-- the verdict on a bar that passes every ground
abbrev pub accepted : Verdict
accepted = Ok tt

-- Feeders, at a level n in A.

-- a grid: kappa 1.35, m + n 1.1, for one second
abbrev pub grid : ℕ → Told
grid n = grid_tells 1_350 1_100 1_000 n

-- motors over the grid
abbrev pub grid_and_motors : ℕ → Told
grid_and_motors n = motors_tell 452 400_000_000 (grid n)

abbrev pub point : ℕ → ℕ → ℕ → Point
point level peak heat = record { level = level; peak = peak; heat = heat }

-- a fuse over the grid
abbrev pub fuse_curve : List Point
fuse_curve = point 10_000 12_000 400_000_000 ∷ point 50_000 20_000 900_000_000 ∷ []

abbrev pub fused_grid : ℕ → Told
fused_grid n = fuse_tells fuse_curve n (grid n)

-- a pile of four: motors over that fuse, and a fuse over the motors
abbrev pub top_curve : List Point
top_curve = point 40_000 24_000 2_000_000_000 ∷ []

abbrev pub pile : ℕ → Told
pile n = fuse_tells top_curve n (motors_tell 5_000 100_000_000 (fused_grid n))

-- A new sheet of job 7.
abbrev pub new_sheet : Plain
new_sheet = fresh 7

pub record WorkedBoards : Type 0 where
  -- the forces of the fault (EN 60865-1:2012, 5.2): U in 0.1 µN, F on a span in 10 µN, whatever f and P
  pub current_term : current_force ThreePhase fault_peak ≡ 1_558_846_800
  pub force_on_a_span : (f P : ℕ) → span_force (main_bar f P) fault_peak ≡ 77_942_340
  -- the bar 60 by 10: its section, its stress in kPa, the load R on the worse support in mN
  pub bar_made : bar_section 60 10 ≡ Ok bar_60_by_10
  pub bar_stress : (f P : ℕ) → main_stress_of (main_bar f P) (span_force (main_bar f P) fault_peak) ≡ 71_123
  pub bar_load : (f P : ℕ) → support_load_of (main_bar f P) (span_force (main_bar f P) fault_peak) ≡ 2_314_888
  -- ground 4: with f 48 the bar holds, with 47 it bends
  pub limit_at_48 : plastic_limit (main_bar 48 3_000) ≡ 72_000
  pub limit_at_47 : plastic_limit (main_bar 47 3_000) ≡ 70_500
  pub passes_at_48 : passes (main_bar 48 3_000) ≡ true
  pub passes_at_47 : passes (main_bar 47 3_000) ≡ true
  pub holds_at_48 : verdict (main_bar 48 3_000) fault ≡ accepted
  pub bends_at_47 : verdict (main_bar 47 3_000) fault ≡ refused_on grounds.TotalStress 71_123 70_500
  -- ground 5: supports of 2,315 N hold, supports of 2,314 N let go
  pub passes_at_2315 : passes (main_bar 120 2_315) ≡ true
  pub passes_at_2314 : passes (main_bar 120 2_314) ≡ true
  pub holds_at_2315 : verdict (main_bar 120 2_315) fault ≡ accepted
  pub lets_go_at_2314 : verdict (main_bar 120 2_314) fault ≡ refused_on grounds.SupportLoad 2_314_888 2_314_000
  -- ground 2: the bar bears a heat at its limit, and not one more
  pub heat_borne : heat_limit (main_bar 120 3_000) ≡ 3_600_000_000_000
  pub passes_for_heat : passes (main_bar 120 3_000) ≡ true
  pub holds_at_the_heat : verdict (main_bar 120 3_000) (fault_of_heat 3_600_000_000_000) ≡ accepted
  pub too_hot_above : verdict (main_bar 120 3_000) (fault_of_heat 3_600_000_000_001) ≡ refused_on grounds.Heat 3_600_000_000_001 3_600_000_000_000
  -- the stack of two: G on a sub-bar in 10 µN, the stresses in kPa
  pub stack_made : stack_section 2 60 10 500 ≡ Ok two_60_by_10
  pub stack_passes : passes (stacked_bar 120 3_000) ≡ true
  pub stack_force : (f P : ℕ) → sub_force (stacked_bar f P) fault_peak ≡ 66_176_471
  pub stack_sub_stress : (f P : ℕ) → sub_stress_of (stacked_bar f P) (sub_force (stacked_bar f P) fault_peak) ≡ 20_681
  pub stack_main_stress : (f P : ℕ) → main_stress_of (stacked_bar f P) (span_force (stacked_bar f P) fault_peak) ≡ 35_562
  -- the tube: modulus, area and plastic factor
  pub tube_made : tube_section 50 5 ≡ Ok tube_50_by_5
  -- the grid tells a peak and a heat from 100 A to 100,000 A, and nothing outside
  pub grid_allowed : grid_sizes 1_350 1_100 1_000 ≡ true
  pub grid_at_16000 : grid 16_000 ≡ Some (30_548, 281_600_000_000)
  pub grid_at_100 : grid 100 ≡ Some (191, 11_000_000)
  pub grid_at_100000 : grid 100_000 ≡ Some (190_919, 11_000_000_000_000)
  pub grid_at_0 : grid 0 ≡ None
  pub grid_at_99 : grid 99 ≡ None
  pub grid_at_100001 : grid 100_001 ≡ None
  pub grid_at_the_largest : grid 4_294_967_295 ≡ None
  -- motors add to it
  pub motors_allowed : motors_sizes 452 400_000_000 ≡ true
  pub motors_at_16000 : grid_and_motors 16_000 ≡ Some (31_000, 282_000_000_000)
  -- a fuse cuts it, up to the level of its last point; one without points tells nothing
  pub fuse_in_order : in_order fuse_curve ≡ true
  pub fuse_at_16000 : fused_grid 16_000 ≡ Some (20_000, 900_000_000)
  pub fuse_at_10000 : fused_grid 10_000 ≡ Some (12_000, 400_000_000)
  pub fuse_at_10001 : fused_grid 10_001 ≡ Some (19_094, 900_000_000)
  pub fuse_at_50000 : fused_grid 50_000 ≡ Some (20_000, 900_000_000)
  pub fuse_at_50001 : fused_grid 50_001 ≡ None
  pub fuse_at_99 : fused_grid 99 ≡ None
  pub fuse_without_points : fuse_tells [] 16_000 (grid 16_000) ≡ None
  -- the pile of four
  pub pile_motors_allowed : motors_sizes 5_000 100_000_000 ≡ true
  pub pile_in_order : in_order top_curve ≡ true
  pub pile_at_10000 : pile 10_000 ≡ Some (17_000, 500_000_000)
  pub pile_at_16000 : pile 16_000 ≡ Some (24_000, 1_000_000_000)
  pub pile_at_40001 : pile 40_001 ≡ None
  -- the new sheet saved: one block of 512 bytes, with its check in the last two
  pub one_block : saved_blocks new_sheet 512 ≡ Ok 1
  pub block_length : length (stored new_sheet) ≡ 512
  pub block_check : check_of (take 510 (stored new_sheet)) ≡ 2_255
  pub check_bytes : drop 510 (stored new_sheet) ≡ 8 ∷ 207 ∷ []
