-- The two bits of an entry's state (01, 'The entry map'): no two states share them.
use Rattle.std.specs.Prelude.{◌≡◌, refl}
use Rattle.sector.specs.declared.EntryMapState.{EntryMapState}
use Rattle.sector.specs.declared.EntryMapState.TheVariants.{Empty, Written, Erased, Illegal}
use Rattle.sector.specs.Map.{bits_of, state_of_bits}

-- no two states share their bits
pub state_bits : (s : EntryMapState) → state_of_bits (bits_of s) ≡ s
state_bits Empty = refl
state_bits Written = refl
state_bits Erased = refl
state_bits Illegal = refl
