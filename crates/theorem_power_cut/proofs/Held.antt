-- What is known of a page at every point of a history: it stands, its header opens, and the record at hand is what opening reads.
--
-- In order: a page that is held; what opening leaves.
use mathlib.Core.Path.{◌≡◌, refl, sym, ap, ◌∙◌, subst}
use mathlib.Core.Bool.{true}
use mathlib.Core.List.{List, [], ◌++◌}
use Prim.Native.Nat.{ℕ, ◌*◌}
use native.Mathlib.Omega.{arith}
use lib.Dec.{eqb}
use lib.ListN.{length, take, drop, replicate}
use lib.Seq.{take_at, length-take-le}
use borrow.Author.Tests.{eq-eqb}
use Rattle.flash.specs.Flash.{run, all_ones}
use Rattle.flash.proofs.Laws.{Bytes, replicate-all_ones}
use Rattle.page.specs.Record.{Page, uninitialized}
use Rattle.sector.specs.Layout.{map_of, entries_of}
use Rattle.sector.proofs.Marks.{image_parts, map_of_parts}
use Rattle.opening_reading.specs.Reading.{Item}
use Rattle.opening_found.specs.Found.{header_verdict_of, kept_items}
use Rattle.opening.specs.Opening.{opened_map, opening_plan, opened_page, answer_for, opening, opening_image}
use Rattle.std.specs.Prelude.{Result, Ok, Err}
use Rattle.opening_found.specs.declared.Header.{Header}
use Rattle.opening_found.specs.declared.Header.TheVariants.{Blank, Opens}
use Rattle.opening_found.specs.declared.HeaderError.{HeaderError}
use Rattle.theorem_reopening.proofs.Cuts.{kept_from_empties}
use Rattle.theorem_writing.proofs.FitRecords.{bytes_of}
use Rattle.theorem_power_cut.specs.History.{Sector}
use Rattle.theorem_power_cut.proofs.Standing.{Standing, standing_map}
use Rattle.theorem_power_cut.proofs.OpenedPage.{run_opening, opened_size, opened_standing}
use Rattle.theorem_power_cut.proofs.AtHand.{page_of, opened_is}
use Rattle.theorem_power_cut.proofs.Headers.{HeaderOpens, opens_facts, blank_facts, header_opens, image_opens}
use Rattle.sector.specs.Answers.{Done}

-- ---- a page that is held

pub record Held (image : List ℕ) (page : Page) (items : List Item) : Type 0 where
  pub standing : Standing image items
  pub opens : HeaderOpens image
  pub page_is : page ≡ page_of standing.header standing.map standing.front items

-- an erased page holds nothing, and every call on its record is refused
pub data Known (image : List ℕ) (page : Page) (items : List Item) : Type 0 where
  held : Held image page items → Known image page items
  blank : image ≡ replicate 4096 0xFF → page ≡ uninitialized → items ≡ [] → Known image page items

-- ---- what opening leaves

sector_size_lem : (image : List ℕ) → length image ≡ 4096 → eqb (length image) 4096 ≡ true
sector_size_lem image h = eq-eqb (length image) 4096 h

module _ (image : List ℕ) (sector : Sector image) (opens : header_verdict_of image ≡ Ok Opens) where
  abbrev after : List ℕ
  after = run (opening_plan image) image

  sector_bytes : Bytes image
  sector_bytes = bytes_of image sector.bytes

  stands : Standing after (kept_items image)
  stands = opened_standing image sector.size sector_bytes

  abbrev header : List ℕ
  header = take 32 image

  header_size : length header ≡ 32
  header_size = length-take-le 32 image (omega (arith, sector.size))

  after_is : after ≡ header ++ (opened_map image ++ drop 64 image)
  after_is = run_opening image sector.size sector_bytes

  same_header : stands.header ≡ header
  same_header =
      sym (take_at stands.header (stands.map ++ (stands.used ++ replicate (32 * stands.spare) 0xFF)) 32 stands.header_size)
      ∙ ap (take 32) (sym stands.split ∙ after_is)
      ∙ take_at header (opened_map image ++ drop 64 image) 32 header_size

  same_map : opened_map image ≡ stands.map
  same_map =
      sym (map_of_parts header (opened_map image) (drop 64 image) header_size (opened_size image sector.size sector_bytes))
      ∙ ap map_of (sym after_is)
      ∙ standing_map stands

  opened_held : Held after (opened_page image) (kept_items image)
  opened_held =
      let behind = map_of image ++ drop 64 image in
      let facts = header_opens header behind header_size (subst HeaderOpens (image_parts image) (opens_facts image opens)) in
      record {
        standing = stands;
        opens = subst HeaderOpens (sym after_is) (image_opens header (opened_map image ++ drop 64 image) header_size facts);
        page_is =
            opened_is image stands.header behind stands.map stands.front stands.spare (kept_items image)
            (image_parts image ∙ ap (λ (h : List ℕ). h ++ behind) (sym same_header)) stands.header_size same_map stands.states refl;
      }

-- an erased page keeps nothing
pub blank_kept : kept_items (replicate 4096 0xFF) ≡ []
unfolding kept_items
blank_kept = kept_from_empties 126 0 (entries_of (replicate 4096 0xFF))

pub blank_image : (image : List ℕ) → length image ≡ 4096 → all_ones image ≡ true → image ≡ replicate 4096 0xFF
blank_image image size e = replicate-all_ones image e ∙ ap (λ (n : ℕ). replicate {A = ℕ} n 0xFF) size

pub opened_known : (image : List ℕ) → Sector image → (opening image).answer ≡ Done → Known (opening_image image) (opening image).page (kept_items image)
unfolding opening opening_image
opened_known image sector d = by_verdict (header_verdict_of image) refl (rw (sector_size_lem image sector.size) at d)
  where
    by_verdict : (v : Result Header HeaderError) → header_verdict_of image ≡ v → (answer_for v image).answer ≡ Done
        → Known (opening_image image) (opening image).page (kept_items image)
    by_verdict (Ok Opens) e d = rw (sector_size_lem image sector.size, e) (held (opened_held image sector e))
    by_verdict (Ok Blank) e d =
        let ones = blank_image image sector.size (blank_facts image e) in
        rw (sector_size_lem image sector.size, e) (blank (unfold run in ones) refl (ap kept_items ones ∙ blank_kept))
    by_verdict (Err refused) e d = let z : ◌≡◌ {A = ℕ} 0 1 = cc in absurd (omega arith)
