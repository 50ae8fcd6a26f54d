-- One more append or copy on a page that is held: done, the page is held again; cut, it opens.
--
-- In order: an erased page refuses; the header of a cut write; a write cut after n units; a write that is done.
use mathlib.Core.Path.{◌≡◌, sym, ap, ap₂, ◌∙◌, subst}
use mathlib.Core.Bool.{cond, false≢true}
use mathlib.Core.List.{List, [], ◌∷◌, ◌++◌}
use Prim.Native.Nat.{ℕ, suc, ◌+◌, ◌-◌, ◌*◌, ◌≤◌, ◌<◌}
use native.Mathlib.Decide.{dec_le}
use native.Mathlib.Omega.{arith}
use lib.Dec.{leb}
use lib.ListN.{length, take, replicate}
use lib.Seq.{take_at}
use borrow.Author.Tests.{eq-eqb, le-leb, lt-leb}
use Rattle.flash.specs.Flash.{Unit4, run}
use Rattle.flash.proofs.Laws.{Bytes, bytes_take, length_run, clears_run}
use Rattle.flash.proofs.Cuts.{between_new, whole_units_cut}
use Rattle.page.specs.Record.{uninitialized}
use Rattle.page.specs.Writing.{full_units}
use Rattle.sector.specs.declared.PageState.TheVariants.{Active}
use Rattle.sector.specs.Header.{state_bytes}
use Rattle.opening_reading.specs.Reading.{Item, item}
use Rattle.opening_found.specs.Found.{kept_items}
use Rattle.opening.specs.Opening.{opening}
use Rattle.theorem_reopening.proofs.OpenedFront.{count_closed}
use Rattle.theorem_writing.specs.Promises.{outcome_of, image_of, entry_units}
use Rattle.theorem_writing.proofs.Answers.{accepts}
use Rattle.theorem_power_cut.specs.History.{AppendOrCopy, new_item, call_of, put_request}
use Rattle.theorem_power_cut.specs.PowerCut.{Begins}
use Rattle.theorem_power_cut.proofs.Standing.{Standing, standing_size}
use Rattle.theorem_power_cut.proofs.Begun.{plan, header_after, bytes_begun, MarksBegun, marks_begun, header_size, kept_before, kept_after, run_plan, standing_after}
use Rattle.theorem_power_cut.proofs.AtHand.{with_item_lem}
use Rattle.theorem_power_cut.proofs.Headers.{HeaderOpens, opens_of, header_opens, image_opens, active_word, full_between, full_drop, full_opens, full_state}
use Rattle.theorem_power_cut.proofs.Accepted.{write_accepted}
use Rattle.theorem_power_cut.proofs.Started.{page, start, next_is, Started}
use Rattle.theorem_power_cut.proofs.Held.{Held}
use Rattle.sector.specs.Answers.{Done}

-- ---- an erased page

pub blank_refuses : (write : AppendOrCopy) (image : List ℕ) (n : ℕ) → Begins write image uninitialized n → ⊥
blank_refuses write image n b = false≢true (accepts (put_request write) image uninitialized (write_accepted write image uninitialized n b)).active

-- ---- the header of a write

pub opens_split : {image : List ℕ} (header rest : List ℕ) → image ≡ header ++ rest → length header ≡ 32 → HeaderOpens header → HeaderOpens image
opens_split header rest e size o = subst HeaderOpens (sym e) (image_opens header rest size o)

module _ {image : List ℕ} {items : List Item} (p : Standing image items) (opens : HeaderOpens image) where
  pub header_opens_here : HeaderOpens p.header
  header_opens_here = header_opens p.header (p.map ++ (p.used ++ replicate (32 * p.spare) 0xFF)) p.header_size (subst HeaderOpens p.split opens)

  header_bytes_lem : Bytes p.header
  header_bytes_lem = subst Bytes header_is (bytes_take 32 p.bytes)
    where
      header_is : take 32 image ≡ p.header
      header_is = ap (take 32) p.split ∙ take_at p.header (p.map ++ (p.used ++ replicate (32 * p.spare) 0xFF)) 32 p.header_size

  module _ {write : AppendOrCopy} {n : ℕ} (s : Started p write n) where
    word : take 4 p.header ≡ state_bytes Active
    word = active_word header_bytes_lem p.header_size s.active

    abbrev us : List Unit4
    us = entry_units (put_request write) (page p)

    -- ---- cut after n units

    abbrev cut : List ℕ
    cut = run (take n (plan p s.lays)) image

    in_marks : length us < n → MarksBegun p s.lays cut
    in_marks h = marks_begun p s.lays n h (whole_units_cut (plan p s.lays) image n)

    opens_cut : HeaderOpens cut
    opens_cut = by_order (dec_le n (length us))
      where
        by_order : Dec (n ≤ length us) → HeaderOpens cut
        by_order (yes h) = let b = bytes_begun p s.lays n h in opens_split p.header (p.map ++ (p.used ++ b.rest)) b.split p.header_size header_opens_here
        by_order (no h) =
            let m = in_marks (omega arith) in
            opens_split m.header _ m.split (header_size p s.lays m)
            (full_opens header_opens_here (full_between (start p + suc (length s.new)) word m.header_between))

    -- the new item, at its index
    new_is : new_item write (page p) ≡ item (start p) (s.entry ∷ s.new)
    new_is = ap₂ item (next_is p) s.entries_is

    pub cut_opens : (opening (image_of (call_of write) image (page p) n)).answer ≡ Done
    unfolding opening
    cut_opens =
        let size : length cut ≡ 4096 = length_run (take n (plan p s.lays)) image ∙ standing_size p in
        rw (s.image_is, eq-eqb (length cut) 4096 size, opens_of cut opens_cut)

    pub cut_kept : kept_items (image_of (call_of write) image (page p) n) ≡ cond (leb n (length us)) items (items ++ (new_item write (page p) ∷ []))
    cut_kept = ap kept_items s.image_is ∙ by_order (dec_le n (length us))
      where
        by_order : Dec (n ≤ length us) → kept_items cut ≡ cond (leb n (length us)) items (items ++ (new_item write (page p) ∷ []))
        by_order (yes h) = rw (le-leb n (length us) h) (kept_before p s.lays (bytes_begun p s.lays n h))
        by_order (no h) =
            let more : length us < n = omega arith in
            rw (lt-leb n (length us) more) (kept_after p s.lays (in_marks more) ∙ ap (λ (new : Item). items ++ (new ∷ [])) (sym new_is))

    -- ---- done

    pub done_held : (outcome_of (call_of write) image (page p) n).answer ≡ Done
        → Held (image_of (call_of write) image (page p) n) (outcome_of (call_of write) image (page p) n).page (items ++ (new_item write (page p) ∷ []))
    unfolding standing_after
    done_held d =
        let span = suc (length s.new) in
        let after = standing_after p s.lays in
        let end = start p + span in
        let full = full_between end word (between_new (clears_run (full_units end) p.header)) in
        rw ((s.done d).0, (s.done d).1, new_is)
        (record {
          standing = after;
          opens =
              opens_split (header_after p s.lays) _ (run_plan p s.lays) (length_run (full_units end) p.header ∙ p.header_size)
              (full_opens header_opens_here full);
          page_is =
              with_item_lem p.header (header_after p s.lays) p.map p.front items s.entry s.new span (count_closed p.closed)
              (full_state p.header end word) (full_drop full) s.short;
        })
