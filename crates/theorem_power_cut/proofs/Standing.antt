-- A page that stands: header, map, entries in use, blank entries after. Opening leaves it so, and changes nothing of it.
--
-- In order: the page; what its parts are; what the reading keeps of it; that opening changes nothing of it.
use mathlib.Core.Path.{◌≡◌, refl, sym, ap, ap₂, ◌∙◌, subst}
use mathlib.Core.Bool.{true}
use mathlib.Core.List.{List, [], ◌∷◌, ◌++◌, append_assoc}
use Prim.Native.Nat.{ℕ, zero, suc, ◌+◌, ◌-◌, ◌*◌, ◌≤◌}
use native.Mathlib.Omega.{arith}
use lib.ListN.{length, drop, replicate, replicate-append-replicate, length-append, length-replicate, take-append-drop}
use lib.Seq.{take_at, drop_at}
use borrow.Author.Tests.{eq-eqb}
use Rattle.flash.specs.Flash.{every, all_ones}
use Rattle.flash.proofs.Laws.{Bytes, bytes_take, bytes_drop, all_ones-replicate}
use Rattle.sector.specs.declared.EntryMapState.TheVariants.{Empty}
use Rattle.sector.specs.Layout.{entry_address, chunks, entries_of, map_of, same_bytes}
use Rattle.sector.specs.Map.{unpack, pack, states_of}
use Rattle.sector.proofs.Marks.{map_of_parts, entries_parts, pack_unpack}
use Rattle.opening_reading.specs.Reading.{Item, kept_from, opened_states}
use Rattle.opening_marks.specs.Marks.{first_pass, map_unit, changed_units}
use Rattle.opening_found.specs.Found.{kept_items}
use Rattle.opening.specs.Opening.{opened_map, refused_headers, first_map, opening_plan}
use Rattle.opening_reading.proofs.Verdicts.{States}
use Rattle.theorem_reopening.proofs.Closed.{Closed}
use Rattle.theorem_reopening.proofs.TwoPasses.{first_pass_same}
use Rattle.theorem_reopening.proofs.Cuts.{kept_unmarked, opened_states_unmarked_blank}
use Rattle.sector.proofs.Laws.{length_chunks, suc_entries}
use Rattle.theorem_power_cut.proofs.Chunks.{chunks_append}

-- ---- the page

-- a closed front of entries in use, and after it entries that are Empty and 0xFF
pub record Standing (image : List ℕ) (items : List Item) : Type 0 where
  pub header : List ℕ
  pub map : List ℕ
  pub used : List ℕ
  pub front : States
  pub spare : ℕ
  pub split : image ≡ header ++ (map ++ (used ++ replicate (32 * spare) 0xFF))
  pub header_size : length header ≡ 32
  pub map_size_lem : length map ≡ 32
  pub used_size : length used ≡ 32 * length front
  pub sum : length front + spare ≡ 126
  pub bytes : Bytes image
  pub states : states_of map ≡ front ++ replicate spare Empty
  pub closed : Closed zero front (chunks (length front) used)
  pub kept : kept_from zero zero front (chunks (length front) used) ≡ items

-- ---- parts of an image

-- the entries of bytes that fill the page, cut in two
pub entries_two : (header map used rest : List ℕ) (n m : ℕ) → length header ≡ 32 → length map ≡ 32 → length used ≡ 32 * n → n + m ≡ 126
    → entries_of (header ++ (map ++ (used ++ rest))) ≡ chunks n used ++ chunks m rest
entries_two header map used rest n m h g u s =
    ap (chunks 126) (entries_parts header map (used ++ rest) h g)
    ∙ ap (λ (k : ℕ). chunks k (used ++ rest)) (sym s)
    ∙ chunks_append n m used rest u

blank_chunks : (n : ℕ) → every all_ones (chunks n (replicate (32 * n) 0xFF)) ≡ true
unfolding chunks
blank_chunks zero = refl
blank_chunks (suc n) =
    let ones : List ℕ = replicate 32 0xFF in
    rw (
      suc_entries n,
      ← replicate-append-replicate {A = ℕ} 32 (32 * n) 0xFF,
      take_at ones (replicate (32 * n) 0xFF) 32 refl,
      drop_at ones (replicate (32 * n) 0xFF) 32 refl,
      all_ones-replicate 32,
    )
    (blank_chunks n)

-- ---- what opening makes of it

same_bytes_lem : (bytes : List ℕ) → same_bytes bytes bytes ≡ true
same_bytes_lem [] = refl
same_bytes_lem (x ∷ bytes) = rw (eq-eqb x x refl, same_bytes_lem bytes)

-- a map that does not change has no units
pub changed_none : (j n : ℕ) (map : List ℕ) → changed_units j n map map ≡ []
unfolding changed_units
changed_none j zero map = refl
changed_none j (suc n) map = rw (same_bytes_lem (map_unit j map)) (changed_none (suc j) n map)

module _ {image : List ℕ} {items : List Item} (p : Standing image items) where
  abbrev pub blanks : List ℕ
  blanks = replicate (32 * p.spare) 0xFF

  -- what lies before the blank entries
  abbrev pub front_bytes : List ℕ
  front_bytes = p.header ++ (p.map ++ p.used)

  pub front_size : length front_bytes ≡ entry_address (length p.front)
  front_size =
      omega (arith, length-append p.header (p.map ++ p.used), length-append p.map p.used, p.header_size, p.map_size_lem, p.used_size)

  pub regroup : (rest : List ℕ) → front_bytes ++ rest ≡ p.header ++ (p.map ++ (p.used ++ rest))
  regroup rest =
      append_assoc p.header (p.map ++ p.used) rest ∙ ap (λ (tail : List ℕ). p.header ++ tail) (append_assoc p.map p.used rest)

  pub standing_size : length image ≡ 4096
  standing_size =
      ap length (p.split ∙ sym (regroup blanks))
      ∙ omega (arith, length-append front_bytes blanks, front_size, length-replicate {A = ℕ} (32 * p.spare) 0xFF, p.sum)

  -- the first n blank entries, and the others
  pub blank_parts : (n : ℕ) → n ≤ p.spare → image ≡ front_bytes ++ (replicate (32 * n) 0xFF ++ replicate (32 * (p.spare - n)) 0xFF)
  blank_parts n h =
      let parts : 32 * p.spare ≡ 32 * n + 32 * (p.spare - n) = omega arith in
      p.split ∙ sym (regroup blanks)
      ∙ ap (λ (rest : List ℕ). front_bytes ++ rest)
      (ap (λ (k : ℕ). replicate {A = ℕ} k 0xFF) parts ∙ sym (replicate-append-replicate {A = ℕ} (32 * n) (32 * (p.spare - n)) 0xFF))

  -- its map
  pub standing_map : map_of image ≡ p.map
  standing_map = ap map_of p.split ∙ map_of_parts p.header p.map (p.used ++ blanks) p.header_size p.map_size_lem

  pub standing_map_bytes : Bytes p.map
  standing_map_bytes = subst Bytes standing_map (bytes_take 32 (bytes_drop 32 p.bytes))

  pub standing_states : states_of (map_of image) ≡ p.front ++ replicate p.spare Empty
  standing_states = ap states_of standing_map ∙ p.states

  pub standing_entries : entries_of image ≡ chunks (length p.front) p.used ++ chunks p.spare blanks
  standing_entries =
      ap entries_of p.split
      ∙ entries_two p.header p.map p.used blanks (length p.front) p.spare p.header_size p.map_size_lem p.used_size p.sum

  -- the reading keeps its items
  pub standing_kept : kept_items image ≡ items
  unfolding kept_items
  standing_kept =
      ap₂ (kept_from zero zero) standing_states standing_entries ∙ kept_unmarked p.closed p.spare (chunks p.spare blanks) ∙ p.kept

  -- opening leaves its states
  standing_opened : opened_states (states_of (map_of image)) (entries_of image) ≡ states_of (map_of image)
  standing_opened =
      let free = chunks p.spare blanks in
      let states : states_of (map_of image) ≡ p.front ++ replicate (length free) Empty =
      standing_states ∙ ap (λ (n : ℕ). p.front ++ replicate n Empty) (sym (length_chunks p.spare blanks)) in
      ap₂ opened_states states standing_entries ∙ opened_states_unmarked_blank p.closed free (blank_chunks p.spare) ∙ sym states

  map_bytes : Bytes (map_of image)
  map_bytes = bytes_take 32 (bytes_drop 32 p.bytes)

  whole_map : pack (states_of (map_of image) ++ drop 126 (unpack (map_of image))) ≡ map_of image
  whole_map = ap pack (take-append-drop 126 (unpack (map_of image))) ∙ pack_unpack map_bytes

  pub standing_opened_map : opened_map image ≡ map_of image
  unfolding opened_map
  standing_opened_map = ap (λ (states : States). pack (states ++ drop 126 (unpack (map_of image)))) standing_opened ∙ whole_map

  pub standing_first_map : first_map image ≡ map_of image
  unfolding first_map
  standing_first_map =
      ap (λ (states : States). pack (states ++ drop 126 (unpack (map_of image))))
      (ap (λ (news : States). first_pass (states_of (map_of image)) news (refused_headers zero (states_of (map_of image)) (entries_of image))) standing_opened
      ∙ first_pass_same (states_of (map_of image)) (refused_headers zero (states_of (map_of image)) (entries_of image)))
      ∙ whole_map

  -- opening has nothing to program
  pub standing_plan : opening_plan image ≡ []
  unfolding opening_plan
  standing_plan =
      rw (standing_first_map, standing_opened_map, changed_none 0 8 (map_of image))
