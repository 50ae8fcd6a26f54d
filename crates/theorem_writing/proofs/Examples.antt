-- What the promises ask of records and requests is met: by the Uninitialized record, and by a namespace entry.
use mathlib.Core.Path.{◌≡◌, refl}
use mathlib.Core.Bool.{true}
use lib.ListN.{replicate}
use Rattle.page.specs.Record.{uninitialized}
use Rattle.call_append.specs.Append.{namespace_item}
use Rattle.theorem_writing.specs.Promises.{single, putting, formed, AsInCode}

pub uninitialized_as_in_code : AsInCode uninitialized
uninitialized_as_in_code = (refl, refl, refl)

pub namespace_formed : formed (putting (single (namespace_item (replicate 16 0) 1))) ≡ true
namespace_formed = refl
