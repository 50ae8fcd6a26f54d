-- A call that begins: no check refuses, so its units are programmed, and when it is done it hands back its new record.
use Rattle.std.specs.Prelude.{Err}
use mathlib.Core.Path.{◌≡◌}
use mathlib.Core.Bool.{Bool, true, false}
use mathlib.Core.List.{List}
use mathlib.Core.Logic.{◌⊎◌, inl, inr}
use Prim.Native.Nat.{ℕ}
use lib.ListN.{length, take}
use lib.Seq.{take_all}
use borrow.Author.Tests.{ltb-false}
use Rattle.flash.specs.Flash.{Unit4, every}
use Rattle.page.specs.Record.{Page}
use Rattle.page.specs.Writing.{outcome, stops}
use Rattle.sector.specs.declared.Refusal.TheVariants.{Stopped}
use Rattle.sector.specs.Answers.{Done, Check, accepted}
use Rattle.theorem_writing.specs.Promises.{checks_of, plan_of, new_of}
use Rattle.theorem_writing.proofs.Answers.{answers_refusal, checks_refuse, stopped_only, done_only, told_put}
use Rattle.theorem_power_cut.specs.History.{AppendOrCopy, call_of, put_request}
use Rattle.theorem_power_cut.specs.PowerCut.{Begins}

module _ (checks : List Check) (refuse : every answers_refusal checks ≡ true) (stopped : Bool) (page new : Page) where
  pub begins_accepted : ((outcome checks stopped page new).answer ≡ Done) ⊎ ((outcome checks stopped page new).answer ≡ Err Stopped) → accepted checks ≡ true
  begins_accepted (inl d) = (done_only checks refuse stopped page new d).0
  begins_accepted (inr s) = (stopped_only checks refuse stopped page new s).0

  pub done_whole : (outcome checks stopped page new).answer ≡ Done → stopped ≡ false
  done_whole d = (done_only checks refuse stopped page new d).1

  pub done_page : (outcome checks stopped page new).answer ≡ Done → (outcome checks stopped page new).page ≡ new
  done_page d = (done_only checks refuse stopped page new d).2

-- the whole plan was done
pub done_plan : (n : ℕ) (plan : List Unit4) → stops n plan ≡ false → take n plan ≡ plan
done_plan n plan e = take_all n plan (ltb-false n (length plan) e)

-- a write that begins is accepted
pub write_accepted : (write : AppendOrCopy) (image : List ℕ) (page : Page) (n : ℕ) → Begins write image page n → accepted (checks_of (call_of write) image page) ≡ true
write_accepted write image page n b =
    begins_accepted (checks_of (call_of write) image page) (checks_refuse (call_of write) image page) (stops n (plan_of (call_of write) image page)) page (new_of (call_of write) page)
    (rw (told_put (put_request write) image page n).0 at b)
