-- Rounding a quotient, and ranges of whole numbers. Down is `/` as it stands.
use Rattle.std.specs.Prelude.{ℕ, ◌+◌, ◌/◌, ◌%◌, min, Bool, ◌&&◌, nat_le}

-- up: to the next whole number unless the quotient is whole
unfoldable pub up : ℕ → ℕ → ℕ
up n d = n / d + min 1 (n % d)

-- x lies in low to high, both ends among them
abbrev pub within : ℕ → ℕ → ℕ → Bool
within low high x = nat_le low x && nat_le x high
