-- Opening cut in either of its passes, inside a unit too, and opened again, gives what one whole opening gives.
--
-- In order: a page with another map that reads the same; the states of the three maps; the cut, pass by pass; a cut after whole units.
use mathlib.Core.Path.{◌≡◌, refl, sym, ap, ap₂, ◌∙◌, subst}
use mathlib.Core.List.{List, [], ◌++◌}
use Prim.Native.Nat.{ℕ, zero, ◌+◌, ◌-◌, ◌≤◌}
use native.Mathlib.Omega.{arith}
use lib.ListN.{length, take, drop, length-append, length-drop, take-append-drop}
use lib.Seq.{take_at, drop_at, take-nil}
use borrow.Author.Tests.{eq-eqb}
use Rattle.flash.specs.Flash.{Unit4, run, Between, CutAt}
use Rattle.flash.proofs.Laws.{Bytes, bytes_take, bytes_drop, bytes_clears, length_clears}
use Rattle.flash.proofs.Cuts.{between_ends, after_front, before_back, whole_units_cut, cut_between, CutInto, of_first, of_second, cut_append}
use Rattle.page.specs.Writing.{answered}
use Rattle.sector.specs.Layout.{field, version_of, map_of, entries_of, chunks}
use Rattle.sector.specs.Map.{states_of, unpack, pack}
use Rattle.sector.proofs.Laws.{length_unpack}
use Rattle.sector.proofs.Marks.{image_parts, map_of_parts, entries_parts, unpack_pack}
use Rattle.opening_reading.specs.Reading.{kept_from, opened_states}
use Rattle.opening_found.specs.Found.{header_verdict_of, kept_items}
use Rattle.opening.specs.Opening.{opened_map, first_map, opening_plan, opened_page, opening, opening_image, opening_stopped_image, plan_for}
use Rattle.std.specs.Prelude.{Result, Ok, Err}
use Rattle.opening_found.specs.declared.Header.{Header}
use Rattle.opening_found.specs.declared.Header.TheVariants.{Blank, Opens}
use Rattle.opening_found.specs.declared.HeaderError.{HeaderError}
use Rattle.theorem_reopening.proofs.Reopened.{length-opened_states}
use Rattle.opening_reading.proofs.Verdicts.{States, Entries}
use Rattle.theorem_reopening.proofs.Mixed.{Mix, length_mix, mix_same, mix_append, Steps, length_steps, steps_same, steps_append, between_mix}
use Rattle.theorem_reopening.proofs.TwoPasses.{first_states, steps_first_pass, steps_second_pass, CutOpening, in_first, in_second, opened_states_cut, kept_from_cut}
use Rattle.theorem_writing.proofs.FitRecords.{bytes_of}
use Rattle.theorem_power_cut.specs.PowerCut.{OpeningCut}
use Rattle.theorem_power_cut.proofs.Found.{map_size_lem}
use Rattle.theorem_power_cut.proofs.OpenedPage.{header_size, states_size, same_size, first_size, opened_size, before, first, run_first, between, second, run_second, run_opening}
use Rattle.theorem_power_cut.proofs.AtHand.{field_front, version_front}
use Rattle.theorem_power_cut.proofs.Headers.{HeaderOpens, opens_facts, opens_of, header_opens, image_opens}
use Rattle.sector.specs.Answers.{Done}

abbrev Same : List ℕ → List ℕ → Type 0
Same cut image = (opening cut ≡ opening image) × (opening_image cut ≡ opening_image image) × (kept_items cut ≡ kept_items image)

module _ (image : List ℕ) (size : length image ≡ 4096) (bytes : Bytes image) where
  abbrev head : List ℕ
  head = take 32 image

  abbrev tail : List ℕ
  tail = drop 64 image

  head_size : length head ≡ 32
  head_size = header_size image size bytes

  abbrev old : States
  old = states_of (map_of image)

  abbrev es : Entries
  es = entries_of image

  abbrev spare : States
  spare = drop 126 (unpack (map_of image))

  -- ---- another map that reads the same

  module _ (opens : header_verdict_of image ≡ Ok Opens) (mid : List ℕ) (mid_size : length mid ≡ 32) where
    abbrev cut : List ℕ
    cut = head ++ (mid ++ tail)

    cut_map : map_of cut ≡ mid
    cut_map = map_of_parts head mid tail head_size mid_size

    cut_entries : entries_of cut ≡ es
    cut_entries = ap (chunks 126) (entries_parts head mid tail head_size mid_size)

    cut_size : length cut ≡ 4096
    cut_size = omega (arith, length-append head (mid ++ tail), length-append mid tail, head_size, mid_size, length-drop 64 image)

    cut_opens : header_verdict_of cut ≡ Ok Opens
    cut_opens =
        opens_of cut
        (image_opens head (mid ++ tail) head_size (header_opens head (map_of image ++ tail) head_size (subst HeaderOpens (image_parts image) (opens_facts image opens))))

    same_field : (offset width : ℕ) → offset + width ≤ 32 → field offset width cut ≡ field offset width image
    same_field offset width h =
        field_front offset width head (mid ++ tail) (omega (arith, head_size))
        ∙ sym (field_front offset width head (map_of image ++ tail) (omega (arith, head_size)))
        ∙ ap (field offset width) (sym (image_parts image))

    same_version : version_of cut ≡ version_of image
    same_version =
        version_front head (mid ++ tail) head_size ∙ sym (version_front head (map_of image ++ tail) head_size) ∙ ap version_of (sym (image_parts image))

    module _ (reads : opened_states (states_of mid) es ≡ opened_states old es) (keeps : kept_from zero zero (states_of mid) es ≡ kept_from zero zero old es)
        (spare_same : drop 126 (unpack mid) ≡ spare) (cut_bytes : Bytes cut) where
      same_map : opened_map cut ≡ opened_map image
      unfolding opened_map
      same_map =
          ap₂ (λ (map : List ℕ) (es : Entries). pack (opened_states (states_of map) es ++ drop 126 (unpack map))) cut_map cut_entries
          ∙ ap₂ (λ (news spares : States). pack (news ++ spares)) reads spare_same

      same_items_lem : kept_items cut ≡ kept_items image
      unfolding kept_items
      same_items_lem = ap₂ (λ (map : List ℕ) (es : Entries). kept_from zero zero (states_of map) es) cut_map cut_entries ∙ keeps

      same_page : opened_page cut ≡ opened_page image
      unfolding opened_page
      same_page =
          rw (same_field 0 4 (omega arith), same_field 4 4 (omega arith), same_field 28 4 (omega arith), same_version, same_map, same_items_lem)

      same_image : run (opening_plan cut) cut ≡ run (opening_plan image) image
      same_image =
          run_opening cut cut_size cut_bytes
          ∙ ap₂ (λ (h r : List ℕ). h ++ (opened_map cut ++ r)) (take_at head (mid ++ tail) 32 head_size) (entries_parts head mid tail head_size mid_size)
          ∙ ap (λ (map : List ℕ). head ++ (map ++ tail)) same_map
          ∙ sym (run_opening image size bytes)

      -- all that opening gives
      opens_same : Same cut image
      unfolding opening opening_image
      opens_same =
          let here = eq-eqb (length cut) 4096 cut_size in
          let there = eq-eqb (length image) 4096 size in (
            rw (here, there, cut_opens, opens) (ap (answered Done) same_page),
            rw (here, there, cut_opens, opens) same_image,
            same_items_lem,
          )

  -- ---- the states of the three maps

  old_long : length old ≡ 126
  old_long = states_size image size bytes

  first_long : length (first_states old es) ≡ 126
  first_long = length_steps (steps_first_pass old es (same_size image size bytes)) ∙ old_long

  new_long : length (opened_states old es) ≡ 126
  new_long = length-opened_states old es ∙ old_long

  spare_long : length spare ≡ 2
  spare_long = rw (length-drop, length_unpack (map_of image), map_size_lem image size)

  unpack_old : unpack (map_of image) ≡ old ++ spare
  unpack_old = sym (take-append-drop 126 (unpack (map_of image)))

  unpack_first : unpack (first_map image) ≡ first_states old es ++ spare
  unfolding first_map
  unpack_first = unpack_pack (first_states old es ++ spare) (rw (length-append, first_long, spare_long))

  unpack_new : unpack (opened_map image) ≡ opened_states old es ++ spare
  unfolding opened_map
  unpack_new = unpack_pack (opened_states old es ++ spare) (rw (length-append, new_long, spare_long))

  -- ---- the cut

  -- a map between two whose states end in the spare ones: a mix of their states, and the spare ones
  between_maps : {a mid b : List ℕ} {from to : States} → Bytes a → Steps from to → unpack a ≡ from ++ spare → unpack b ≡ to ++ spare
      → length from ≡ 126 → length to ≡ 126 → Between a mid b → Mix from to (states_of mid) × (drop 126 (unpack mid) ≡ spare)
  between_maps {a} {mid} {b} {from} {to} bytes steps ea eb la lb c =
      let parts = mix_append from to (la ∙ sym lb) (between_mix bytes (steps_append steps (steps_same spare)) c ea eb) in
      let long : length parts.first ≡ 126 = length_mix parts.first_mix ∙ la in (
        subst (Mix from to) (sym (ap (take 126) parts.split ∙ take_at parts.first parts.rest 126 long)) parts.first_mix,
        ap (drop 126) parts.split ∙ drop_at parts.first parts.rest 126 long ∙ mix_same parts.rest_mix,
      )

  module _ (opens : header_verdict_of image ≡ Ok Opens) where
    -- in a pass from one map to another, each mix of whose states is a cut opening
    cut_pass : (a b : List ℕ) (from to : States) → length a ≡ 32 → length b ≡ 32 → Bytes (head ++ (a ++ tail)) → Steps from to
        → unpack a ≡ from ++ spare → unpack b ≡ to ++ spare → length from ≡ 126 → length to ≡ 126
        → ((mid : States) → Mix from to mid → CutOpening old mid es)
        → {cut : List ℕ} → Between (head ++ (a ++ tail)) cut (head ++ (b ++ tail)) → Same cut image
    cut_pass a b from to size_a size_b bytes_a steps ea eb la lb cuts {cut} c =
        let after = after_front head c in
        let same = before_back a b (size_a ∙ sym size_b) after.between in
        let mid = same.first in
        let split : cut ≡ head ++ (mid ++ tail) = after.split ∙ ap (λ (rest : List ℕ). head ++ rest) same.split in
        let mid_size : length mid ≡ 32 = length_clears same.between.begun ∙ size_a in
        let map_bytes = subst Bytes (map_of_parts head a tail head_size size_a) (bytes_take 32 (bytes_drop 32 bytes_a)) in
        let parts = between_maps map_bytes steps ea eb la lb same.between in
        let opening_cut = cuts (states_of mid) parts.0 in
        subst (λ (x : List ℕ). Same x image) (sym split)
        (opens_same opens mid mid_size (opened_states_cut (same_size image size bytes) opening_cut) (kept_from_cut zero (same_size image size bytes) opening_cut)
        parts.1 (subst Bytes split (bytes_clears bytes_a c.begun)))

    cut_first : {cut : List ℕ} → Between image cut (run (first image size bytes) image) → Same cut image
    cut_first c =
        cut_pass (map_of image) (first_map image) old (first_states old es) (map_size_lem image size) (first_size image size bytes) (before image size bytes)
        (steps_first_pass old es (same_size image size bytes)) unpack_old unpack_first old_long first_long (λ mid m. in_first m)
        (between_ends (image_parts image) (run_first image size bytes) c)

    cut_second : {cut : List ℕ} → Between (run (first image size bytes) image) cut (run (second image size bytes) (run (first image size bytes) image))
        → Same cut image
    cut_second c =
        cut_pass (first_map image) (opened_map image) (first_states old es) (opened_states old es) (first_size image size bytes) (opened_size image size bytes)
        (between image size bytes) (steps_second_pass old es (same_size image size bytes)) unpack_first unpack_new first_long new_long (λ mid m. in_second m)
        (between_ends (run_first image size bytes) (run_second image size bytes) c)

    -- in either pass, inside a unit too
    opens_cut : (n : ℕ) {cut : List ℕ} → CutAt (opening_plan image) image n cut → Same cut image
    unfolding opening_plan
    opens_cut n {cut} c = by_phase (cut_append (first image size bytes) (second image size bytes) image n c)
      where
        by_phase : CutInto (first image size bytes) (second image size bytes) image n cut → Same cut image
        by_phase (of_first l c) = cut_first (cut_between (first image size bytes) image n c)
        by_phase (of_second l c) = cut_second (cut_between (second image size bytes) (run (first image size bytes) image) (n - length (first image size bytes)) c)

nothing_done : (n : ℕ) (image : List ℕ) → run (take n []) image ≡ image
unfolding run
nothing_done n image = ap (λ (plan : List Unit4). run plan image) (take-nil n)

pub opening_cut : OpeningCut
unfolding opening_stopped_image
opening_cut image n sector = rw (eq-eqb (length image) 4096 sector.size) (by_verdict (header_verdict_of image) refl)
  where
    unchanged : Same (run (take n []) image) image
    unchanged = subst (λ (cut : List ℕ). Same cut image) (sym (nothing_done n image)) (refl, refl, refl)

    by_verdict : (v : Result Header HeaderError) → header_verdict_of image ≡ v → Same (run (take n (plan_for v image)) image) image
    by_verdict (Ok Opens) e = opens_cut image sector.size (bytes_of image sector.bytes) e n (whole_units_cut (opening_plan image) image n)
    by_verdict (Ok Blank) e = unchanged
    by_verdict (Err refused) e = unchanged
