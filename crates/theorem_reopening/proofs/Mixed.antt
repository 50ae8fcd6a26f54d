-- The states of a map between two: each is the old one or the new one, where each changes by at most one bit.
--
-- In order: one of two states; a mix of two lists, and its parts; changes by at most one bit; the states of a map between two.
-- A mix takes each entry from either list, so that neither the order inside a pass nor the borders of units play a part.
use mathlib.Core.Path.{◌≡◌, refl, sym, ap, ap₂, ◌∙◌, subst}
use mathlib.Core.Bool.{true, false, false≢true}
use mathlib.Core.List.{List, [], ◌∷◌, ◌++◌}
use Prim.Native.Nat.{ℕ, suc}
use native.Mathlib.Nat.{suc_inj, suc-ne-zero}
use lib.ListN.{length}
use Rattle.flash.specs.Flash.{Between}
use Rattle.flash.proofs.Laws.{Bytes, bytes_clears}
use Rattle.sector.specs.declared.EntryMapState.{EntryMapState}
use Rattle.sector.specs.declared.EntryMapState.TheVariants.{Empty, Written, Erased, Illegal}
use Rattle.sector.specs.Map.{states_of, unpack, same_state}
use Rattle.sector.proofs.Marks.{both, both_self, StatesClear, states_nil, states_cons, clears_unpack, states_take}
use Rattle.opening_reading.proofs.Verdicts.{States}

-- ---- one of two states

pub data OneOf (s t : EntryMapState) : EntryMapState → Type 0 where
  the_old : OneOf s t s
  the_new : OneOf s t t

one_of_alike : {s t m : EntryMapState} → s ≡ t → OneOf s t m → m ≡ s
one_of_alike e the_old = refl
one_of_alike e the_new = sym e

pub one_of_same : {s m : EntryMapState} → OneOf s s m → m ≡ s
one_of_same the_old = refl
one_of_same the_new = refl

-- ---- a mix of two lists of states

-- each state is the old one or the new one
pub data Mix : States → States → States → Type 0 where
  mix_nil : Mix [] [] []
  mix_cons : {s t m : EntryMapState} {old new mid : States} → OneOf s t m → Mix old new mid → Mix (s ∷ old) (t ∷ new) (m ∷ mid)

pub length_mix : {old new mid : States} → Mix old new mid → length mid ≡ length old
length_mix mix_nil = refl
length_mix (mix_cons o m) = ap suc (length_mix m)

mix_alike : {old new mid : States} → old ≡ new → Mix old new mid → mid ≡ old
mix_alike e mix_nil = refl
mix_alike e (mix_cons {s = s} {t = t} {old = old} {new = new} o m) =
    let same : s ≡ t = cc in
    let rest : old ≡ new = cc in
    ap₂ (λ (s : EntryMapState) (states : States). s ∷ states) (one_of_alike same o) (mix_alike rest m)

-- where nothing changes
pub mix_same : {states mid : States} → Mix states states mid → mid ≡ states
mix_same m = mix_alike refl m

-- a mix of lists in two parts is in two parts, each a mix of theirs
pub record MixParted (old back new behind mid : States) : Type 0 where
  pub first : States
  pub rest : States
  pub split : mid ≡ first ++ rest
  pub first_mix : Mix old new first
  pub rest_mix : Mix back behind rest

pub mix_append : (old new : States) {back behind mid : States} → length old ≡ length new → Mix (old ++ back) (new ++ behind) mid
    → MixParted old back new behind mid
mix_append [] [] {mid = mid} l m = record { first = []; rest = mid; split = refl; first_mix = mix_nil; rest_mix = m }
mix_append [] (t ∷ new) l m = absurd (suc-ne-zero (length new) (sym l))
mix_append (s ∷ old) [] l m = absurd (suc-ne-zero (length old) l)
mix_append (s ∷ old) (t ∷ new) l (mix_cons {m = u} o m) =
    let parts = mix_append old new (suc_inj l) m in
    record {
      first = u ∷ parts.first;
      rest = parts.rest;
      split = ap (λ (states : States). u ∷ states) parts.split;
      first_mix = mix_cons o parts.first_mix;
      rest_mix = parts.rest_mix;
    }

-- ---- changes by at most one bit

-- all that clear bits but Empty to Erased
pub data Step : EntryMapState → EntryMapState → Type 0 where
  stays : {s : EntryMapState} → Step s s
  writes : Step Empty Written
  spoils : Step Empty Illegal
  erases : Step Written Erased
  shuts : Step Illegal Erased

pub data Steps : States → States → Type 0 where
  steps_nil : Steps [] []
  steps_cons : {s t : EntryMapState} {old new : States} → Step s t → Steps old new → Steps (s ∷ old) (t ∷ new)

pub length_steps : {old new : States} → Steps old new → length new ≡ length old
length_steps steps_nil = refl
length_steps (steps_cons x steps) = ap suc (length_steps steps)

pub steps_same : (states : States) → Steps states states
steps_same [] = steps_nil
steps_same (s ∷ states) = steps_cons stays (steps_same states)

pub steps_append : {xs ys vs ws : States} → Steps xs ys → Steps vs ws → Steps (xs ++ vs) (ys ++ ws)
steps_append steps_nil w = w
steps_append (steps_cons x xs) w = steps_cons x (steps_append xs w)

step_clears : {s t : EntryMapState} → Step s t → both s t ≡ t
step_clears {s} stays = both_self s
step_clears writes = refl
step_clears spoils = refl
step_clears erases = refl
step_clears shuts = refl

pub steps_clear : {old new : States} → Steps old new → StatesClear old new
steps_clear steps_nil = states_nil
steps_clear (steps_cons x steps) = states_cons (step_clears x) (steps_clear steps)

-- ---- the states of a map between two

both_comm : (s t : EntryMapState) → both s t ≡ both t s
both_comm Empty Empty = refl
both_comm Empty Written = refl
both_comm Empty Erased = refl
both_comm Empty Illegal = refl
both_comm Written Empty = refl
both_comm Written Written = refl
both_comm Written Erased = refl
both_comm Written Illegal = refl
both_comm Erased Empty = refl
both_comm Erased Written = refl
both_comm Erased Erased = refl
both_comm Erased Illegal = refl
both_comm Illegal Empty = refl
both_comm Illegal Written = refl
both_comm Illegal Erased = refl
both_comm Illegal Illegal = refl

-- two states that differ, by a test
differ : {s t : EntryMapState} (u : EntryMapState) → same_state u s ≡ true → same_state u t ≡ false → s ≡ t → ⊥
differ u p q e = false≢true (sym q ∙ ap (same_state u) (sym e) ∙ p)

one_of : {s t : EntryMapState} (m : EntryMapState) → Step s t → both s m ≡ m → both m t ≡ t → OneOf s t m
one_of {s} m stays e f = let same : m ≡ s = sym e ∙ both_comm s m ∙ f in rw same the_old
one_of Empty writes e f = the_old
one_of Written writes e f = the_new
one_of Erased writes e f = absurd (differ Erased refl refl f)
one_of Illegal writes e f = absurd (differ Erased refl refl f)
one_of Empty spoils e f = the_old
one_of Written spoils e f = absurd (differ Erased refl refl f)
one_of Erased spoils e f = absurd (differ Erased refl refl f)
one_of Illegal spoils e f = the_new
one_of Empty erases e f = absurd (differ Written refl refl e)
one_of Written erases e f = the_old
one_of Erased erases e f = the_new
one_of Illegal erases e f = absurd (differ Erased refl refl e)
one_of Empty shuts e f = absurd (differ Illegal refl refl e)
one_of Written shuts e f = absurd (differ Erased refl refl e)
one_of Erased shuts e f = the_new
one_of Illegal shuts e f = the_old

states_mix : {old mid new : States} → Steps old new → StatesClear old mid → StatesClear mid new → Mix old new mid
states_mix steps_nil states_nil states_nil = mix_nil
states_mix (steps_cons x steps) (states_cons {t = m} e c) (states_cons f d) = mix_cons (one_of m x e f) (states_mix steps c d)

-- all 128 states, or those of the entries alone, with both ends given by what they are
mix_ends : {old mid new before after : States} → old ≡ before → new ≡ after → Steps before after → StatesClear old mid → StatesClear mid new
    → Mix before after mid
mix_ends {mid = mid} e f steps c d =
    states_mix steps (subst (λ (states : States). StatesClear states mid) e c) (subst (λ (states : States). StatesClear mid states) f d)

module _ {old mid new : List ℕ} {before after : States} (bytes : Bytes old) (steps : Steps before after) (b : Between old mid new) where
  begun : StatesClear (unpack old) (unpack mid)
  begun = clears_unpack bytes b.begun

  left : StatesClear (unpack mid) (unpack new)
  left = clears_unpack (bytes_clears bytes b.begun) b.left

  pub between_mix : unpack old ≡ before → unpack new ≡ after → Mix before after (unpack mid)
  between_mix e f = mix_ends e f steps begun left

  pub between_states : states_of old ≡ before → states_of new ≡ after → Mix before after (states_of mid)
  between_states e f = mix_ends e f steps (states_take 126 begun) (states_take 126 left)
