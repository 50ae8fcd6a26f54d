-- What is known of an array of bytes that a function is passed: each of its elements is a byte.
use mathlib.Core.List.{List, [], ◌∷◌}
use Prim.Native.Nat.{ℕ}
use mir.Syntax.{w8}
use mir.Val.{Val}
use denote.Array.{each}
use denote.Plain.{UInt}
use denote.Shadow.{shadow}
use Rattle.flash.proofs.Laws.{Bytes, bytes_nil, bytes_cons}

pub bytes_of_array : (xs : List ℕ) (values : List Val) → shadow (each ℕ (UInt w8).own_val xs values) → Bytes xs
bytes_of_array [] [] known = bytes_nil
bytes_of_array [] (value ∷ values) known = absurd known
bytes_of_array (x ∷ xs) [] known = absurd known
bytes_of_array (x ∷ xs) (value ∷ values) known = bytes_cons known.0.1 (bytes_of_array xs values known.1)
