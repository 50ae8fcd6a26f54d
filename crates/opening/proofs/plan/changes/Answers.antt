-- `plan::changes` meets its contract: a map is its states packed, and each call gives the states of the definition that it is named after.
use mathlib.Core.Path.{◌≡◌, ap₂, ◌∙◌}
use mathlib.Core.List.{List}
use Prim.Native.Nat.{ℕ, zero}
use Rattle.sector.specs.Layout.{map_of, entries_of}
use Rattle.sector.specs.Map.{states_of}
use Rattle.opening_reading.specs.Reading.{opened_states}
use Rattle.opening_marks.specs.Marks.{HasStates, first_pass}
use Rattle.page.specs.declared.Listed.{Listed}
use Rattle.opening_found.specs.Found.{kept_items}
use Rattle.opening.specs.Opening.{listed_items, opened_map, refused_headers, first_map, opened_page}
use Rattle.opening.specs.Steps.{header_record}
use Rattle.opening_marks.proofs.Arrays.{bytes_of_array}
use Rattle.opening_marks.proofs.Passes.{has_states}
use Rattle.opening.proofs.plan.changes.Goals as goal

pub returns : goal.returns
unfolding opened_page header_record opened_states opened_map first_map kept_items
returns c =
    let map_read : c.map_of-map.result ≡ map_of c.args.image.now = c.map_of-map.ensures in
    let opened : let image = c.args.image.now in HasStates (map_of image) (opened_states (states_of (map_of image)) (entries_of image)) c.shut_before_tail-opened.result = let walked = c in
    let marks = rw map_read at walked.walk-listing.ensures.marks in
    let shut = c.shut_before_tail-opened.ensures in
    record { states_are = shut.states_are ∙ rw marks.states_are; spare = shut.spare ∙ marks.spare } in
    let opened_map : c.shut_before_tail-opened.result ≡ opened_map c.args.image.now = has_states (bytes_of_array c.shut_before_tail-opened.result _ c.shut_before_tail-opened.type_inv.1.1) opened in
    let passed : let image = c.args.image.now in let states = states_of (map_of image) in HasStates (map_of image) (first_pass states (opened_states states (entries_of image)) (refused_headers zero states (entries_of image))) c.first_pass-first.result = let shut = c in
    let walked = shut in
    rw (opened.states_are, walked.walk-listing.ensures.heads, map_read) at c.first_pass-first.ensures in
    let first_map' : c.first_pass-first.result ≡ first_map c.args.image.now = has_states (bytes_of_array c.first_pass-first.result _ c.first_pass-first.type_inv.1.1) passed in
    let listed : c.walk-listing.result.listing ≡ listed_items (kept_items c.args.image.now) = c.walk-listing.ensures.listing ∙ rw map_read in
    let first = c in
    let shut = first in
    let walked = shut in
    let image = walked.args.image.now in
    record {
      map = map_read;
      first = first_map';
      page = c.header_record-page.ensures ∙ ap₂ (λ (map : List ℕ) (places : List Listed). header_record image map places) opened_map listed;
    }
