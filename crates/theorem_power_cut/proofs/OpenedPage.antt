-- What opening leaves of a sector that opens: its header and entries, the map of the reading, and so a page that stands.
--
-- In order: entries that are all 0xFF; the image after opening; the page that stands there.
use mathlib.Core.Path.{◌≡◌, refl, sym, ap, ap₂, ◌∙◌, subst}
use mathlib.Core.Bool.{true, and-eq-true_iff}
use mathlib.Core.List.{List, [], ◌∷◌, ◌++◌}
use Prim.Native.Nat.{ℕ, zero, suc, ◌+◌, ◌*◌}
use native.Mathlib.Omega.{arith}
use lib.ListN.{length, take, drop, replicate, replicate-append-replicate, length-append, length-drop, length-replicate, take-append-drop}
use lib.Seq.{take_at, drop_at, length-take-le}
use Rattle.flash.specs.Flash.{Unit4, run, every, all_ones, OnlyClears}
use Rattle.flash.proofs.Laws.{Bytes, bytes_take, bytes_drop, bytes_run, length_clears, replicate-all_ones, run_append}
use Rattle.sector.specs.declared.EntryMapState.TheVariants.{Empty}
use Rattle.sector.specs.Layout.{chunks, entries_of, map_of}
use Rattle.sector.specs.Map.{unpack, pack, states_of}
use Rattle.sector.proofs.Laws.{length-states_of, length_unpack, length_chunks, suc_entries}
use Rattle.sector.proofs.Marks.{states_refl, states_append, clears_pack, pack_unpack, unpack_pack, image_parts}
use Rattle.opening_reading.specs.Reading.{kept_from, opened_states}
use Rattle.opening_marks.specs.Marks.{changed_units}
use Rattle.opening_found.specs.Found.{kept_items}
use Rattle.opening.specs.Opening.{opened_map, first_map, opening_plan}
use Rattle.opening_reading.proofs.Verdicts.{States, Entries}
use Rattle.theorem_reopening.proofs.Closed.{length_closed}
use Rattle.theorem_reopening.proofs.Reopened.{length-opened_states, kept_opened_states}
use Rattle.theorem_reopening.proofs.Mixed.{steps_clear}
use Rattle.theorem_reopening.proofs.TwoPasses.{steps_first_pass, steps_second_pass}
use Rattle.theorem_reopening.proofs.OpenedFront.{Opened, opened}
use Rattle.theorem_reopening.proofs.Cuts.{kept_unmarked}
use Rattle.theorem_power_cut.proofs.Chunks.{chunks_append}
use Rattle.theorem_power_cut.proofs.Found.{map_size_lem}
use Rattle.theorem_power_cut.proofs.MapUnits.{run_pass}
use Rattle.theorem_power_cut.proofs.Standing.{Standing}

-- ---- entries that are all 0xFF

blank_bytes : (n : ℕ) (bytes : List ℕ) → length bytes ≡ 32 * n → every all_ones (chunks n bytes) ≡ true → bytes ≡ replicate (32 * n) 0xFF
unfolding chunks
blank_bytes zero [] h e = refl
blank_bytes zero (x ∷ bytes) h e = absurd (omega arith)
blank_bytes (suc n) bytes h e =
    let both = (and-eq-true_iff (all_ones (take 32 bytes)) (every all_ones (chunks n (drop 32 bytes)))).0 e in
    let first : length (take 32 bytes) ≡ 32 = length-take-le 32 bytes (omega arith) in
    sym (take-append-drop 32 bytes)
    ∙ ap₂ (λ (xs ys : List ℕ). xs ++ ys)
    (replicate-all_ones (take 32 bytes) both.0 ∙ ap (λ (k : ℕ). replicate {A = ℕ} k 0xFF) first)
    (blank_bytes n (drop 32 bytes) (rw length-drop (omega arith)) both.1)
    ∙ replicate-append-replicate {A = ℕ} 32 (32 * n) 0xFF
    ∙ ap (λ (k : ℕ). replicate {A = ℕ} k 0xFF) (sym (suc_entries n))

-- ---- the image after opening

module _ (image : List ℕ) (size : length image ≡ 4096) (bytes : Bytes image) where
  abbrev pub states : States
  states = states_of (map_of image)

  abbrev pub entries : Entries
  entries = entries_of image

  abbrev pub header : List ℕ
  header = take 32 image

  abbrev pub rest : List ℕ
  rest = drop 64 image

  pub header_size : length header ≡ 32
  header_size = length-take-le 32 image (omega arith)

  pub states_size : length states ≡ 126
  states_size = length-states_of (map_of image) (map_size_lem image size)

  pub same_size : length states ≡ length entries
  same_size = states_size ∙ sym (length_chunks 126 (drop 64 image))

  old_map : map_of image ≡ pack (states ++ drop 126 (unpack (map_of image)))
  old_map = sym (ap pack (take-append-drop 126 (unpack (map_of image))) ∙ pack_unpack (bytes_take 32 (bytes_drop 32 bytes)))

  pub map_first : OnlyClears (map_of image) (first_map image)
  unfolding first_map
  map_first =
      subst (λ (before : List ℕ). OnlyClears before (first_map image)) (sym old_map)
      (clears_pack (states_append (steps_clear (steps_first_pass states entries same_size)) (states_refl (drop 126 (unpack (map_of image))))))

  pub map_second : OnlyClears (first_map image) (opened_map image)
  unfolding first_map opened_map
  map_second =
      clears_pack
      (states_append (steps_clear (steps_second_pass states entries same_size)) (states_refl (drop 126 (unpack (map_of image)))))

  pub first_size : length (first_map image) ≡ 32
  first_size = length_clears map_first ∙ map_size_lem image size

  pub before : Bytes (header ++ (map_of image ++ rest))
  before = subst Bytes (image_parts image) bytes

  abbrev pub first : List Unit4
  first = changed_units 0 8 (map_of image) (first_map image)

  pub run_first : run first image ≡ header ++ (first_map image ++ rest)
  run_first =
      ap (run first) (image_parts image) ∙ run_pass header (map_of image) (first_map image) rest header_size (map_size_lem image size) map_first before

  pub between : Bytes (header ++ (first_map image ++ rest))
  between = subst Bytes run_first (bytes_run first bytes)

  abbrev pub second : List Unit4
  second = changed_units 0 8 (first_map image) (opened_map image)

  pub run_second : run second (run first image) ≡ header ++ (opened_map image ++ rest)
  run_second = ap (run second) run_first ∙ run_pass header (first_map image) (opened_map image) rest header_size first_size map_second between

  -- the entries and the header stay, and the map is the reading's
  pub run_opening : run (opening_plan image) image ≡ header ++ (opened_map image ++ rest)
  unfolding opening_plan
  run_opening = run_append first second image ∙ run_second

  -- ---- the page that stands there

  left : Opened (opened_states states entries) entries
  left = opened states entries same_size

  abbrev n : ℕ
  n = length left.front

  abbrev m : ℕ
  m = length left.blanks

  sum : n + m ≡ 126
  sum =
      omega (
        arith,
        length-opened_states states entries,
        states_size,
        ap length left.states_split,
        length-append left.front (replicate (length left.blanks) Empty),
        length-replicate (length left.blanks) Empty,
      )

  rest_size : length rest ≡ 4032
  rest_size = rw length-drop (omega arith)

  abbrev used : List ℕ
  used = take (32 * n) rest

  abbrev tail : List ℕ
  tail = drop (32 * n) rest

  used_size : length used ≡ 32 * n
  used_size = length-take-le (32 * n) rest (omega (arith, rest_size, sum))

  tail_size : length tail ≡ 32 * m
  tail_size = rw length-drop (omega (arith, rest_size, sum))

  rest_parts : rest ≡ used ++ tail
  rest_parts = sym (take-append-drop (32 * n) rest)

  entries_parts_two : left.bytes ++ left.blanks ≡ chunks n used ++ chunks m tail
  entries_parts_two =
      sym left.entries_split
      ∙ ap₂ chunks (sym sum) rest_parts
      ∙ chunks_append n m used tail used_size

  bytes_length : length left.bytes ≡ n
  bytes_length = sym (length_closed left.closed)

  front_entries : left.bytes ≡ chunks n used
  front_entries =
      sym (take_at left.bytes left.blanks n bytes_length) ∙ ap (take n) entries_parts_two ∙ take_at (chunks n used) (chunks m tail) n (length_chunks n used)

  blank_entries : left.blanks ≡ chunks m tail
  blank_entries =
      sym (drop_at left.bytes left.blanks n bytes_length) ∙ ap (drop n) entries_parts_two ∙ drop_at (chunks n used) (chunks m tail) n (length_chunks n used)

  tail_blank : tail ≡ replicate (32 * m) 0xFF
  tail_blank = blank_bytes m tail tail_size (rw (← blank_entries) left.blank)

  pub opened_size : length (opened_map image) ≡ 32
  opened_size = length_clears map_second ∙ first_size

  pub opened_states_lem : states_of (opened_map image) ≡ opened_states states entries
  unfolding opened_map
  opened_states_lem =
      ap (take 126)
      (unpack_pack (opened_states states entries ++ drop 126 (unpack (map_of image)))
      (rw (length-append, length-opened_states states entries, states_size, length-drop, length_unpack (map_of image), map_size_lem image size)))
      ∙ take_at (opened_states states entries) (drop 126 (unpack (map_of image))) 126 (length-opened_states states entries ∙ states_size)

  same_items_lem : kept_from zero zero left.front left.bytes ≡ kept_items image
  unfolding kept_items
  same_items_lem =
      sym (kept_unmarked left.closed (length left.blanks) left.blanks)
      ∙ ap₂ (kept_from zero zero) (sym left.states_split) (sym left.entries_split)
      ∙ kept_opened_states zero states entries same_size

  pub opened_standing : Standing (run (opening_plan image) image) (kept_items image)
  opened_standing =
      record {
        header = header;
        map = opened_map image;
        used = used;
        front = left.front;
        spare = m;
        split = run_opening ∙ ap (λ (tail : List ℕ). header ++ (opened_map image ++ tail)) (rest_parts ∙ ap (λ (blanks : List ℕ). used ++ blanks) tail_blank);
        header_size = header_size;
        map_size_lem = opened_size;
        used_size = used_size;
        sum = sum;
        bytes = bytes_run (opening_plan image) bytes;
        states = opened_states_lem ∙ left.states_split;
        closed = rw front_entries at left.closed;
        kept = rw front_entries at same_items_lem;
      }
