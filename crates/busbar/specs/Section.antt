-- The sections: bar, rod, tube and stack, with their size limits and roundings.
use Rattle.std.specs.Prelude.{ℕ, ◌+◌, ◌-◌, ◌*◌, ◌/◌, Bool, true, false, cond, not, ◌&&◌, Some, None, Ok, Err, Result, ◌==◌, nat_le}
use Rattle.busbar.specs.Distance.{stack_distance}
use Rattle.busbar.specs.Rounding.{within}
use Rattle.busbar.specs.declared.question.Question.{Question}
use Rattle.busbar.specs.declared.question.Question.TheVariants as q
use Rattle.busbar.specs.declared.section.Section.{Section}

-- a section where the sizes are right, else the number of the no
abbrev pub made_if : Bool → Question → Section → Result Section Question
made_if right no_to s = cond right (Ok s) (Err no_to)

abbrev pub solid : ℕ → ℕ → ℕ → Bool → Section
solid W A plastic rounded = record { modulus = W; area = A; plastic_factor = plastic; round = rounded; sub_bars = None }

-- a bar of height b and thickness t
abbrev pub bar_modulus : ℕ → ℕ → ℕ
bar_modulus b t = 1000 * b * t * t / 6

abbrev pub bar_area : ℕ → ℕ → ℕ
bar_area b t = 1000 * b * t

abbrev pub bar_section : ℕ → ℕ → Result Section Question
bar_section b t =
    made_if (within 10 200 b && within 3 20 t) q.SectionSize (solid (bar_modulus b t) (bar_area b t) 15000 false)

-- a rod of diameter D
abbrev pub rod_section : ℕ → Result Section Question
rod_section D =
    made_if (within 8 200 D) q.SectionSize (solid (314159 * D * D * D / 3200) (314159 * D * D / 400) 17000 true)

-- a tube of diameter D and inner diameter g
abbrev pub power4 : ℕ → ℕ
power4 x = x * x * x * x

abbrev pub tube_figures : ℕ → ℕ → Section
tube_figures D g =
    solid
    (314159 * (power4 D - power4 g) / (3200 * D))
    (314159 * (D * D - g * g) / 400)
    (17000 * D * (D * D * D - g * g * g) / (power4 D - power4 g))
    true

abbrev pub tube_section : ℕ → ℕ → Result Section Question
tube_section D t =
    made_if (within 16 200 D && (nat_le 2 t && nat_le (2 * t + 2) D)) q.SectionSize (tube_figures D (D - 2 * t))

-- a stack of n bars of height b and thickness t, with connecting pieces d apart
abbrev pub stack_figures : ℕ → ℕ → ℕ → ℕ → Section
stack_figures n b t d = record {
  modulus = n * bar_modulus b t;
  area = n * bar_area b t;
  plastic_factor = 15000;
  round = false;
  sub_bars = Some (record { count = n; modulus = bar_modulus b t; distance = stack_distance n t b; spacing = d });
}

abbrev pub stack_section : ℕ → ℕ → ℕ → ℕ → Result Section Question
stack_section n b t d = made_if (not (stack_distance n t b == 0)) q.StackSize (stack_figures n b t d)
