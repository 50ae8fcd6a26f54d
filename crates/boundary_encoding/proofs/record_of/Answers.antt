-- `record_of` meets its contract: each field is read where `record_of` has it.
use Rattle.boundary_encoding.specs.Encoding.{record_of}
use Rattle.boundary_encoding.proofs.record_of.Goals as goal

pub returns : goal.returns
unfolding record_of
returns c =
    rw (
      c.state_of_byte-state.ensures,
      c.array_of-map.ensures,
      c.places_of-list.ensures,
      c.number_at.ensures,
      c.number_at-2.ensures,
      c.used_of.ensures,
    )
