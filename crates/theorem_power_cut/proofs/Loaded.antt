-- What was put loads: each item by its index, and data with its bytes.
--
-- In order: the rules of a payload; an item that the reading keeps; data that it keeps; every history.
use mathlib.Core.Path.{◌≡◌, refl, sym, ap, ◌∙◌, subst}
use mathlib.Core.Bool.{Bool, true, false}
use mathlib.Core.List.{List, [], ◌∷◌, ◌++◌, Memᴰ, head-eq_of_cons-eq, tail-eq_of_cons-eq}
use Rattle.std.specs.Prelude.{None}
use Prim.Native.Nat.{ℕ, suc, ◌+◌, ◌-◌, ◌*◌, ◌≤◌, ◌<◌}
use native.Mathlib.Numerals.{add-one}
use native.Mathlib.Omega.{arith}
use lib.ListN.{length, take, drop, replicate, length-take, length-drop, length-replicate}
use lib.Seq.{take-take, take-append-le}
use borrow.Author.Tests.{eq-eqb, ne_eqb, lt-ltb, le-ltb, ltb-false}
use Rattle.page.specs.Record.{Page}
use Rattle.sector.specs.Answers.{Done, accepted}
use Rattle.sector.specs.Item.{loads}
use Rattle.sector.specs.Layout.{entry_address, entry_at, entries_of, span_of, size_of}
use Rattle.sector.proofs.Laws.{length_chunks, length-entries_of}
use Rattle.call_load.specs.Load.{load_item}
use Rattle.call_load_data.specs.Payload.{rounded_up, data_checks, data_answer, data_output}
use Rattle.call_append.specs.Append.{span_for, variable_header}
use Rattle.opening_reading.specs.declared.Reason.TheVariants.{SizeTooBig, PayloadCrcWrong}
use Rattle.opening_reading.specs.Reading.{first_rule, is_payload, covered, joined, size_too_big, payload_crc_wrong, payload_refusal, Item, item}
use Rattle.opening_reading.proofs.Entries.{take_joined, entries_from}
use Rattle.opening_reading.proofs.Verdicts.{Entries, header_loads, whole_span}
use Rattle.opening.specs.Opening.{header_of}
use Rattle.theorem_reopening.proofs.KeptItem.{WholeAt}
use Rattle.theorem_power_cut.specs.History.{payload_entries}
use Rattle.theorem_power_cut.specs.PowerCut.{LoadsWhatWasPut, LoadsData}
use Rattle.theorem_power_cut.proofs.Found.{find}
use Rattle.theorem_power_cut.proofs.NewItem.{new_size, payload_there, header_typed}
use Rattle.theorem_power_cut.proofs.Standing.{standing_size}
use Rattle.theorem_power_cut.proofs.Held.{Known, held, blank}
use Rattle.theorem_power_cut.proofs.Demand.{known, finds_what_was_put}

-- ---- the rules of a payload

no_rule : (big wrong : Bool) → first_rule ((big, SizeTooBig) ∷ (wrong, PayloadCrcWrong) ∷ []) ≡ None → big ≡ false
no_rule true wrong h = cc
no_rule false wrong h = refl

-- a payload that no rule refuses fits the entries after its header
payload_fits : (entry : List ℕ) (entries : Entries) → is_payload entry ≡ true → payload_refusal entry entries ≡ None → size_of entry ≤ 32 * covered entry
unfolding payload_refusal
payload_fits entry entries typed h =
    ltb-false (32 * covered entry) (size_of entry) (no_rule (size_too_big entry) (payload_crc_wrong entry entries) (rw typed at h))

-- ---- an item that the reading keeps

module _ {index : ℕ} {group : Entries} (image : List ℕ) (size : length image ≡ 4096) (found : WholeAt index group (entries_of image)) where
  abbrev k : ℕ
  k = length found.new

  group_long : length group ≡ suc k
  group_long = ap length found.header_first

  fits : suc index + k ≤ 126
  fits = omega (arith, found.fits, length-entries_of image, group_long)

  inside : index < 126
  inside = omega (arith, fits)

  -- its entries are the page's from its index on
  lies : entry_at image index ∷ take k (drop (index + 1) (entries_of image)) ≡ found.header ∷ found.new
  lies = rw (entries_from image index inside, group_long) at found.bytes ∙ found.header_first

  entry_is : entry_at image index ≡ found.header
  entry_is = head-eq_of_cons-eq lies

  behind_is : take k (drop (suc index) (entries_of image)) ≡ found.new
  behind_is = rw (add-one index) at (tail-eq_of_cons-eq lies)

  loads_header : loads found.header ≡ true
  loads_header = header_loads found.header k found.whole.header

  loads_kept : load_item image index ≡ record { answer = Done; item = header_of group }
  unfolding load_item
  loads_kept = rw (ap header_of found.header_first, eq-eqb (length image) 4096 size, lt-ltb index 126 inside, entry_is, loads_header)

  -- ---- data that it keeps

  module _ (typed : is_payload found.header ≡ true) (output : List ℕ) (room : rounded_up (size_of found.header) ≤ length output) where
    abbrev n : ℕ
    n = rounded_up (size_of found.header)

    size_fits : size_of found.header ≤ 32 * k
    size_fits = rw found.whole.span at (payload_fits found.header (take k found.new) typed found.whole.payload)

    span_is : span_of found.header ≡ suc k
    span_is = whole_span found.whole

    accepts : accepted (data_checks image index (length output)) ≡ true
    accepts =
        rw (
          eq-eqb (length image) 4096 size,
          lt-ltb index 126 inside,
          entry_is,
          loads_header,
          typed,
          span_is,
          ne_eqb (suc k) 0 (λ e. omega arith),
          le-ltb 126 (index + suc k) (omega (arith, fits)),
          le-ltb (32 * (suc k - 1)) (size_of found.header) (omega (arith, size_fits)),
          le-ltb (length output) n room,
        )

    answers : data_answer image index (length output) ≡ record { answer = Done; size = size_of found.header }
    unfolding data_answer
    answers = rw (accepts, entry_is)

    hands_over : take (size_of found.header) (data_output image index output) ≡ take (size_of found.header) (joined found.new)
    unfolding data_output
    hands_over =
        let bytes = drop (entry_address (index + 1)) image in
        rw (
          accepts,
          entry_is,
          take-append-le (size_of found.header) (take n bytes) (drop n output) (rw (length-take, length-drop) (omega (arith, size_fits, fits))),
          take-take (size_of found.header) n bytes (omega arith),
          add-one index,
          ← take_joined image index k (size_of found.header) fits size_fits,
          behind_is,
        )

-- ---- every history

known_size : {image : List ℕ} {page : Page} {items : List Item} → Known image page items → length image ≡ 4096
known_size (held h) = standing_size h.standing
known_size (blank i p e) = rw (i, length-replicate)

pub loads_what_was_put : LoadsWhatWasPut
loads_what_was_put image page items h index entries m =
    let size = known_size (known h) in
    loads_kept image size (find image size (subst (Memᴰ (item index entries)) (sym (finds_what_was_put image page items h).0) m))

pub loads_data : LoadsData
loads_data image page items h request payload ok index typed m output room =
    let size = known_size (known h) in
    let k = span_for (length payload) - 1 in
    let entries = variable_header request payload ∷ payload_entries k payload in
    let found = find image size (subst (Memᴰ (item index entries)) (sym (finds_what_was_put image page items h).0) m) in
    let header : variable_header request payload ≡ found.header = head-eq_of_cons-eq found.header_first in
    let new : payload_entries k payload ≡ found.new = tail-eq_of_cons-eq found.header_first in
    let counted = length_chunks k (payload ++ replicate (32 * k - length payload) 0xFF) in
    let short : span_for (length payload) ≤ 126 = omega (arith, fits image size found, ap length new, counted) in
    let long : size_of found.header ≡ length payload = rw (← header) (new_size request payload ok typed short) in
    let is_data : is_payload found.header ≡ true = rw (← header) (header_typed request payload ok typed short) in
    let enough : rounded_up (size_of found.header) ≤ length output = rw long room in (
      answers image size found is_data output enough ∙ ap (λ (n : ℕ). record { answer = Done; size = n }) long,
      ap (λ (n : ℕ). take n (data_output image index output)) (sym long)
          ∙ hands_over image size found is_data output enough
          ∙ rw (long, ← new) (payload_there request payload ok typed short),
    )
