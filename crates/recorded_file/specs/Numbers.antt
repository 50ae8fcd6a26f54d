-- A number of two bytes; `sector` has the others (specs/Layout.antt).
use Rattle.std.specs.Prelude.{ℕ, ◌+◌, List, [], ◌∷◌, get_or}
use Rattle.sector.specs.Layout.{number}

-- the number of the two bytes from an offset on, lowest first
abbrev pub pair_at : List ℕ → ℕ → ℕ
pair_at bytes i = number (get_or bytes i 0 ∷ get_or bytes (i + 1) 0 ∷ [])
