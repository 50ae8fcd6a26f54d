-- Demand 3 is proved: at every point of a history the page is held, so opening finds what was put, and a cut leaves the new item absent or whole.
use mathlib.Core.Path.{◌≡◌, refl, sym, ap, ◌∙◌, subst}
use mathlib.Core.Bool.{false, cond}
use mathlib.Core.List.Memᴰ
use mathlib.Core.List.{List, [], ◌∷◌, ◌++◌, Memᴰ}
use mathlib.Core.Logic.{◌⊎◌, inl, inr}
use Prim.Native.Nat.{ℕ, suc, ◌+◌, ◌≤◌, ◌<◌}
use native.Mathlib.Omega.{arith}
use lib.Dec.{leb}
use lib.ListN.{length, replicate}
use borrow.Author.Tests.{eq-eqb}
use Rattle.flash.specs.Flash.{run}
use Rattle.flash.proofs.Laws.{all_ones-replicate, Outside, outside_within, outside_append, outside_take, take_drop_run}
use Rattle.page.specs.Record.{Page, next_free, uninitialized, with_erased}
use Rattle.page.specs.Writing.{answered, item_plan}
use Rattle.sector.specs.Header.{state_of_word}
use Rattle.sector.specs.Layout.{entry_address, entry_at}
use Rattle.sector.proofs.Marks.{within_map_units}
use Rattle.call_erase.specs.Erase.{erase_checks, erase_plan, erase, erase_image}
use Rattle.opening_reading.specs.Reading.{Item, item}
use Rattle.opening_found.specs.Found.{header_verdict_of, kept_items}
use Rattle.opening.specs.Opening.{opening, opening_image}
use Rattle.std.specs.Prelude.{Ok}
use Rattle.opening_found.specs.declared.Header.TheVariants.{Blank}
use Rattle.theorem_writing.specs.Promises.{SetsNoBit, erasing, outcome_of, image_of, entry_units}
use Rattle.theorem_writing.proofs.Promises.{only_clears_bits}
use Rattle.theorem_power_cut.specs.History.{AppendOrCopy, entries_of_write, new_item, without_item, History, opened, written, erased, call_of, put_request}
use Rattle.theorem_power_cut.specs.PowerCut.{FindsWhatWasPut, Begins, AbsentOrWhole, AltersNoOtherEntry, ErasesMarksAlone}
use Rattle.theorem_power_cut.proofs.Standing.{Standing, standing_size, standing_kept, standing_plan}
use Rattle.theorem_power_cut.proofs.Begun.{within_full}
use Rattle.theorem_power_cut.proofs.AtHand.{standing_page}
use Rattle.theorem_power_cut.proofs.Headers.{HeaderOpens, opens_of}
use Rattle.theorem_power_cut.proofs.Accepted.{begins_accepted, done_page}
use Rattle.theorem_power_cut.proofs.Started.{page as at_hand, next_is, Started, started}
use Rattle.theorem_power_cut.proofs.Held.{Held, Known, held, blank, blank_kept, opened_known}
use Rattle.theorem_power_cut.proofs.Steps.{blank_refuses, opens_split, header_opens_here, cut_opens, cut_kept, done_held}
use Rattle.theorem_power_cut.proofs.Erasing.{some, fits, run_erase, erased_standing, with_erased_lem}
use Rattle.sector.specs.Answers.{Done}

-- ---- every point of a history is known

-- a write begins on a page that is held, not on an erased one: so what follows of the page at hand holds
begun : {image : List ℕ} {page : Page} {items : List Item} (write : AppendOrCopy) (n : ℕ) (holds : Page → Type 0)
    → ((p : Standing image items) → HeaderOpens image → Started p write n → holds (at_hand p))
    → Known image page items → Begins write image page n → holds page
begun {image} write n holds follows (held h) b =
    subst (λ (page : Page). Begins write image page n → holds page) (sym h.page_is)
    (λ b. follows h.standing h.opens (started h.standing write n b))
    b
begun {image} write n holds follows (blank i p e) b =
    absurd (blank_refuses write image n (subst (λ (page : Page). Begins write image page n) p b))

written_known : {image : List ℕ} {page : Page} {items : List Item} → Known image page items → (write : AppendOrCopy) (n : ℕ)
    → (outcome_of (call_of write) image page n).answer ≡ Done
    → Known (image_of (call_of write) image page n) (outcome_of (call_of write) image page n).page (items ++ (new_item write page ∷ []))
written_known {image} {items = items} k write n d =
    begun write n
    (λ page. (outcome_of (call_of write) image page n).answer ≡ Done
    → Known (image_of (call_of write) image page n) (outcome_of (call_of write) image page n).page (items ++ (new_item write page ∷ [])))
    (λ p o s d. held (done_held p o s d)) k (inl d) d

-- an item is erased of a page that is held, too
erasure : {image : List ℕ} {page : Page} {items : List Item} (index : ℕ) (entries : List (List ℕ)) (holds : Page → Type 0)
    → Memᴰ (item index entries) items
    → ((p : Standing image items) → HeaderOpens image → (erase image (at_hand p) index (length entries)).answer ≡ Done → holds (at_hand p))
    → Known image page items → (erase image page index (length entries)).answer ≡ Done → holds page
erasure {image} index entries holds m follows (held h) d =
    subst (λ (page : Page). (erase image page index (length entries)).answer ≡ Done → holds page) (sym h.page_is) (follows h.standing h.opens) d
erasure index entries holds m follows (blank i p e) d = absurd (Memᴰ.not-nil (subst (Memᴰ (item index entries)) e m))

module _ {image : List ℕ} {items : List Item} (p : Standing image items) (index : ℕ) (entries : List (List ℕ)) where
  erase_image_lem : (erase image (at_hand p) index (length entries)).answer ≡ Done
      → erase_image image (at_hand p) index (length entries) ≡ run (erase_plan (at_hand p) index (length entries)) image
  unfolding erase erase_image
  erase_image_lem d =
      let n = length entries in
      rw (begins_accepted (erase_checks image (at_hand p) index n) refl false (at_hand p) (with_erased (at_hand p) index n) (inl d))

  erase_page : (erase image (at_hand p) index (length entries)).answer ≡ Done → (erase image (at_hand p) index (length entries)).page ≡ with_erased (at_hand p) index (length entries)
  unfolding erase
  erase_page d = let n = length entries in done_page (erase_checks image (at_hand p) index n) refl false (at_hand p) (with_erased (at_hand p) index n) d

  erased_held : (m : Memᴰ (item index entries) items) → HeaderOpens image
      → Held (run (erase_plan (at_hand p) index (length entries)) image) (with_erased (at_hand p) index (length entries)) (without_item index items)
  unfolding erase_plan erased_standing
  erased_held m opens =
      record {
        standing = erased_standing p index entries m;
        opens = opens_split p.header _ (run_erase p index entries m) p.header_size (header_opens_here p opens);
        page_is = with_erased_lem p index entries m;
      }

erased_known : {image : List ℕ} {page : Page} {items : List Item} → Known image page items → (index : ℕ) (entries : List (List ℕ))
    → Memᴰ (item index entries) items → (erase image page index (length entries)).answer ≡ Done
    → Known (erase_image image page index (length entries)) (erase image page index (length entries)).page (without_item index items)
erased_known {image} {items = items} k index entries m d =
    erasure index entries
    (λ page. Known (erase_image image page index (length entries)) (erase image page index (length entries)).page (without_item index items)) m
    (λ p o d. rw (erase_image_lem p index entries d, erase_page p index entries d) (held (erased_held p index entries m o))) k d

pub known : {image : List ℕ} {page : Page} {items : List Item} → History image page items → Known image page items
known (opened {image} sector d) = opened_known image sector d
known (written write n h d) = written_known (known h) write n d
known (erased index entries h m d) = erased_known (known h) index entries m d

-- ---- the demand

pub held_opening : {image : List ℕ} {page : Page} {items : List Item} → Held image page items → opening image ≡ answered Done page
unfolding opening
held_opening {image} h =
    rw (eq-eqb (length image) 4096 (standing_size h.standing), opens_of image h.opens)
    (ap (answered Done) (standing_page h.standing ∙ sym h.page_is))

pub held_image : {image : List ℕ} {page : Page} {items : List Item} → Held image page items → opening_image image ≡ image
unfolding opening_image run
held_image {image} h = rw (eq-eqb (length image) 4096 (standing_size h.standing), opens_of image h.opens, standing_plan h.standing)

abbrev erased_page : List ℕ
erased_page = replicate 4096 0xFF

blank_verdict : header_verdict_of erased_page ≡ Ok Blank
unfolding header_verdict_of state_of_word
blank_verdict = rw (all_ones-replicate 4096)

pub blank_opening : opening erased_page ≡ answered Done uninitialized
unfolding opening
blank_opening = rw blank_verdict

blank_image : opening_image erased_page ≡ erased_page
unfolding opening_image run
blank_image = rw blank_verdict

pub finds_what_was_put : FindsWhatWasPut
finds_what_was_put image page items h = by_known (known h)
  where
    by_known : Known image page items → (kept_items image ≡ items) × (opening image ≡ answered Done page) × (opening_image image ≡ image)
    by_known (held h) = (standing_kept h.standing, held_opening h, held_image h)
    by_known (blank i p e) = (ap kept_items i ∙ blank_kept ∙ sym e, ap opening i ∙ blank_opening ∙ ap (answered Done) (sym p), ap opening_image i ∙ blank_image ∙ sym i)

pub absent_or_whole : AbsentOrWhole
absent_or_whole image page items h write n b =
    begun write n
    (λ page. ((opening (image_of (call_of write) image page n)).answer ≡ Done)
    × (kept_items (image_of (call_of write) image page n) ≡ cond (leb n (length (entry_units (put_request write) page))) items (items ++ (new_item write page ∷ []))))
    (λ p o s. (cut_opens p o s, cut_kept p o s)) (known h) b

-- ---- bits and other entries

module _ {image : List ℕ} {items : List Item} (p : Standing image items) {write : AppendOrCopy} {n : ℕ} (s : Started p write n) where
  abbrev start : ℕ
  start = length p.front

  abbrev span : ℕ
  span = suc (length s.new)

  -- the units of a write lie in its own entries, the map and the state word
  outside : (i : ℕ) → (i < start) ⊎ (start + span ≤ i) → Outside (entry_address i) (entry_address i + 32) (item_plan (entry_units (put_request write) (at_hand p)) start span p.map)
  unfolding item_plan
  outside i away =
      outside_append (by_side away)
      (outside_append
      (outside_within (entry_address i) (entry_address i + 32) (inl (omega arith)) (within_map_units start span _ (omega arith) (omega (arith, s.lays.room, p.sum))))
      (outside_within (entry_address i) (entry_address i + 32) (inl (omega arith)) (within_full (start + span))))
    where
      by_side : (i < start) ⊎ (start + span ≤ i) → Outside (entry_address i) (entry_address i + 32) (entry_units (put_request write) (at_hand p))
      by_side (inl h) = outside_within (entry_address i) (entry_address i + 32) (inr (omega arith)) s.lays.within
      by_side (inr h) = outside_within (entry_address i) (entry_address i + 32) (inl (omega arith)) s.lays.within

  write_entries : (i : ℕ) → (i < next_free (at_hand p)) ⊎ (next_free (at_hand p) + length (entries_of_write write) ≤ i)
      → entry_at (image_of (call_of write) image (at_hand p) n) i ≡ entry_at image i
  write_entries i away =
      ap (λ (after : List ℕ). entry_at after i) s.image_is
      ∙ take_drop_run (entry_address i) 32 image (outside_take n (outside i (rw (next_is p, s.entries_is) at away)))

pub alters_no_other_entry : AltersNoOtherEntry
alters_no_other_entry image page items h write n b =
    begun write n
    (λ page. SetsNoBit image (image_of (call_of write) image page n)
    × ((i : ℕ) → i < 126 → (i < next_free page) ⊎ (next_free page + length (entries_of_write write) ≤ i) → entry_at (image_of (call_of write) image page n) i ≡ entry_at image i))
    (λ p o s. (only_clears_bits (call_of write) image (at_hand p) n, λ i l away. write_entries p s i away)) (known h) b

pub erases_marks_alone : ErasesMarksAlone
unfolding erase_plan
erases_marks_alone image page items h index entries m d =
    let n = length entries in
    erasure index entries
    (λ page. SetsNoBit image (erase_image image page index n) × ((i : ℕ) → i < 126 → entry_at (erase_image image page index n) i ≡ entry_at image i)) m
    (λ p o d. (
      only_clears_bits (erasing index n) image (at_hand p) 0,
      λ i l.
          ap (λ (after : List ℕ). entry_at after i) (erase_image_lem p index entries d)
          ∙ take_drop_run (entry_address i) 32 image
          (outside_within (entry_address i) (entry_address i + 32) (inl (omega arith))
          (within_map_units index n _ (some p index entries m) (omega (arith, fits p index entries m, p.sum)))),
    ))
    (known h) d
