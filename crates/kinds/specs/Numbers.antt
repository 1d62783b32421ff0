-- Numbers of 32 bits with a sign, and their ranks. Assumes nothing.
use Rattle.std.specs.Prelude.{◌≡◌, ℕ, Bool, true, ◌&&◌, List, ℤ, pos, negsuc, ◌-ℤ◌, int_le, unsigned_abs}
use Rattle.std.specs.List.{AllByRecursion}

-- the least and the greatest of them
abbrev pub least : ℤ
least = negsuc 2147483647

abbrev pub greatest : ℤ
greatest = pos 2147483647

-- the number is one of them
abbrev pub fits : ℤ → Bool
fits z = int_le least z && int_le z greatest

-- each number of the list is one of them
abbrev pub AllFit : List ℤ → Type 0
AllFit = AllByRecursion (λ z. fits z ≡ true)

-- how many of them are lower than one of them
abbrev pub rank : ℤ → ℕ
rank z = unsigned_abs (z -ℤ least)

-- two numbers are equal
abbrev pub level : ℤ → ℤ → Bool
level a b = int_le a b && int_le b a
