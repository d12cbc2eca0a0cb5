-- Every script has a feeding. Assumes nothing.
use Prim.Native.Nat.{ℕ, zero, suc, ◌+◌, ◌-◌, ◌≤◌, ◌<◌}
use native.Mathlib.Omega.{arith}
use mathlib.Core.Path.{◌≡◌, refl, sym, ap, ◌∙◌, subst}
use mathlib.Core.Bool.{Bool, true, false}
use mathlib.Core.List.{List, [], ◌∷◌, ◌++◌, append_assoc, append-nil, flatten}
use lib.Dec.{eqb}
use lib.ListN.{length, take, drop, replicate, length-drop, length-replicate}
use borrow.Author.Tests.{le-leb, eqb-true, eqb-false}
use Rattle.definition.specs.Status.{◌and◌}
use Rattle.script_call.proofs.record.Records.{cases}
use Rattle.definition_script.specs.Line.{stop_of}
use Rattle.definition_script.specs.Call.{written_at}
use Rattle.text.specs.Put.{Written}
use Rattle.text.proofs.Place.{place-length, had_room}
use Rattle.line.proofs.line.Lengths.{stop-most}
use Rattle.line.specs.line.LineDone.{LINE}
use Rattle.definition_script.specs.declared.ScriptState.{ScriptState}
use Rattle.feed.specs.declared.Fed.{Fed}
use Rattle.definition_script.specs.Listing.{start_state, Machine, start_machine, stay, move_of, closing}
use Rattle.feed.specs.Turn.{LIMIT}
use Rattle.feed.specs.Feed.{is_ready, Block, fed_from, fed_of, FeedDone}
use Rattle.listing.specs.script.Claims.{Feeds, more, fed, done, Complete, Every, FeedingClaims}
use Rattle.feed.proofs.Blocks.{fed_ready}
use Rattle.listing.proofs.script.Tells.{passes}
use Rattle.listing.proofs.script.Alls.{all_passes, fed_idle}
use Rattle.listing.proofs.script.Lengths.{BlockFits, block-fits}
use Rattle.listing.proofs.script.Chain.{chain}

-- ---- a call of `feed`, and of `finish`

-- what `feed` gives of a block whose text has room
abbrev gives : Block → Fed
gives b = record { state = b.after.state; taken = b.taken; written = length b.text }

calls : (offset : ℕ) (m : Machine) (s out : List ℕ) → length (fed_of offset (length out) m s).text ≤ length out
    → let b : Block = fed_of offset (length out) m s in
    FeedDone m.state offset s m.memory b.after.memory m.lent b.after.lent out (written_at 0 b.text out) (gives b)
calls offset m s out h =
    let b : Block = fed_of offset (length out) m s in
    let n : 0 + length b.text ≤ length out = omega (arith, h) in
    record {
      block = record { after = refl; taken = refl; written = refl; text = refl };
      within = (passes offset (length out) m s).within;
      fits = omega (arith, h, place-length 0 b.text out n);
    }

closing-length : (offset : ℕ) (ended : Bool) (s : List ℕ) → length (closing offset ended s) ≤ 26
unfolding closing
closing-length offset ended [] = omega arith
closing-length offset ended (b ∷ s) =
    cases (List ℕ) (λ (x : List ℕ). length x ≤ 26) ended [] (stop_of offset) (λ e. omega arith) (λ e. stop-most offset)

puts : (xs out : List ℕ) → length xs ≤ 26 → 26 ≤ length out → Written 26 0 xs (length xs) out (written_at 0 xs out)
puts xs out h g =
    had_room (omega arith) (record { put = λ k. record { next = omega arith; most = omega arith; fits = omega arith; out = refl } })

-- ---- a feeding: all blocks come, then calls of `feed` up to one that takes nothing, then one of `finish`

pub is_ready_lem : (st : ScriptState) (offset input memory : ℕ) → st.number ≤ LIMIT → offset ≤ LIMIT → input ≤ LIMIT → memory ≤ 4096
    → is_ready st offset input memory ≡ true
unfolding is_ready ◌and◌
is_ready_lem st offset input memory a b c d =
    simp (le-leb st.number 4611686018427387904 a, le-leb offset 4611686018427387904 b, le-leb input 4611686018427387904 c, le-leb memory 4096 d)

come : (offset room : ℕ) (m : Machine) (o s : List ℕ) (bs : List (List ℕ)) → Feeds room offset m (s ++ flatten bs) [] o → Feeds room offset m s bs o
unfolding flatten
come offset room m o s [] f = subst (λ (x : List ℕ). Feeds room offset m x [] o) (append-nil s) f
come offset room m o s (b ∷ bs) f =
    more (come offset room m o (s ++ b) bs (subst (λ (x : List ℕ). Feeds room offset m x [] o) (sym (append_assoc s b (flatten bs))) f))

module _ (room : ℕ) (h : LINE ≤ room) where
  -- one call, and what follows it: `finish` where it took nothing, else what f gives
  call : (offset : ℕ) (m : Machine) (s : List ℕ) → m.state.number ≤ offset → offset + length s ≤ LIMIT → length m.memory ≤ 4096
      → ((offset' : ℕ) (m' : Machine) (s' : List ℕ) → length s' < length s → m'.state.number ≤ offset' → offset' + length s' ≤ LIMIT
      → length m'.memory ≤ 4096 → (o : List ℕ) × Feeds room offset' m' s' [] o)
      → (o : List ℕ) × Feeds room offset m s [] o
  call offset m s number total size f = by (eqb b.taken 0) refl
    where
      out : List ℕ
      out = replicate room 0

      l : length out ≡ room
      l = length-replicate room 0

      b : Block
      b = fed_of offset (length out) m s

      w : b ≡ fed_from LINE offset (length out) m s
      w = fed_ready offset (length out) m s (is_ready_lem m.state offset (length s) (length m.memory) (omega arith) (omega arith) (omega arith) size)

      k : BlockFits (length out) m b
      k = subst (λ (x : Block). BlockFits (length out) m x) (sym w) (block-fits offset (length out) m s size)

      by : (t : Bool) → eqb b.taken 0 ≡ t → (o : List ℕ) × Feeds room offset m s [] o
      by true e =
          let z : b.taken ≡ 0 = eqb-true _ _ e in
          let y : move_of b.after (drop b.taken s) ≡ stay = rw (z, w) (fed_idle offset (length out) m s (omega (arith, h, l)) (ap (λ (x : Block). x.taken) (sym w) ∙ z)) in
          let xs : List ℕ = closing (offset + b.taken) b.after.state.ended (drop b.taken s) in (
            take (length b.text) (written_at 0 b.text out) ++ take (length xs) (written_at 0 xs out),
            fed l (calls offset m s out k.text)
                (done y (puts xs out (closing-length (offset + b.taken) b.after.state.ended (drop b.taken s)) (omega (arith, h, l))) l (omega (arith, h))),
          )
      by false e =
          let p = passes offset (length out) m s in
          let n : length (drop b.taken s) ≡ length s - b.taken = length-drop b.taken s in
          let g = f (offset + b.taken) b.after (drop b.taken s) (omega (arith, n, eqb-false b.taken 0 e, p.within)) (omega (arith, p.count)) (omega (arith, n, p.within)) (omega (arith, k.memory)) in
          (take (length b.text) (written_at 0 b.text out) ++ g.0, fed l (calls offset m s out k.text) g.1)

  ends_by : (k offset : ℕ) (m : Machine) (s : List ℕ) → length s < k → m.state.number ≤ offset → offset + length s ≤ LIMIT
      → length m.memory ≤ 4096 → (o : List ℕ) × Feeds room offset m s [] o
  ends_by zero offset m s i number total size = absurd (let z : ⊥ = omega arith in z)
  ends_by (suc k) offset m s i number total size =
      call offset m s number total size (λ o m' s' j n t g. ends_by k o m' s' (omega arith) n t g)

pub complete : Complete
complete offset room m s bs number total size h =
    let f = ends_by room h (suc (length (s ++ flatten bs))) offset m (s ++ flatten bs) (omega arith) number total size in
    (f.0, come offset room m f.0 s bs f.1)

pub every : Every
unfolding start_machine start_state
every room bs h g = complete 0 room start_machine [] bs (omega arith) (omega arith) (omega arith) g

pub claims : FeedingClaims
claims =
    record {
      block = λ offset room m s. (passes offset room m s).rest;
      all = λ offset m s. (all_passes offset m s).rest;
      chain = chain;
      complete = complete;
      every = every;
    }
