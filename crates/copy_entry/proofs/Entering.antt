-- Entering a block, in numbers: what its functions ask holds, and what they make is what `AnewIn` says. `Head` is what was read of the block.
use Prim.Native.Nat.{ℕ, ◌+◌, ◌*◌, ◌-◌, ◌≤◌, ◌<◌}
use native.Mathlib.Nat.{add-mul, mul-le-mul_right}
use native.Mathlib.Omega.{arith}
use mathlib.Core.List.{List}
use mathlib.Core.Logic.{inr}
use mathlib.Core.Path.{◌≡◌, sym, ap, ◌∙◌, subst}
use lib.IntN.{ℤ}
use lib.ListN.{get_or, set}
use Rattle.resolved.specs.Resolved.{level_in, direct}
use Rattle.run_moves.specs.Effects.{Cleared}
use Rattle.resolved.specs.Layout.{first_in}
use Rattle.copy_texts.specs.Texts.{renewed, Copied, noted_from}
use Rattle.copy_texts.specs.Copying.{Renewable, Copyable}
use Rattle.run_state.specs.declared.Registers.{Registers}
use Rattle.copy_entry.specs.Anew.{formals_at, names_at, level_at, end_at, given_at, Enterable, Noted, NamesNoted, AnewIn}

-- Rooms of the area, one after the other

one_more : (n width : ℕ) → (n + 1) * width ≡ n * width + width
one_more n width = add-mul n 1 width ∙ omega arith

two-more : (n width : ℕ) → (n + 2) * width ≡ n * width + 2 * width
two-more n width = add-mul n 2 width

lower : (k n width : ℕ) → k ≤ n → k * width ≤ n * width
lower k n width h = mul-le-mul_right width h

-- the place where a room begins fits a word
pub room_small : {code names area : List ℕ} {width : ℕ} {here : Registers} {body link back : ℕ} → Enterable code names area width here body link back
    → (n : ℕ) → n ≤ here.live + 1 → n * width < 1048576
room_small {width} w n h = omega (arith, lower n 255 width (omega (arith, w.room)), w.small)

-- what was read of a block, and the word of the looked-up name there
pub record Head (code : List ℕ) (body level formals count word : ℕ) : Type 0 where
  pub level-is : level ≡ level_at code body
  pub formals-is : formals ≡ formals_at code body
  pub count-is : count ≡ names_at code body
  pub word-is : word ≡ get_or code (body + 2) 0

module _ {code names area : List ℕ} {width : ℕ} {here : Registers} {body link back : ℕ} (w : Enterable code names area width here body link back)
    {level formals count word : ℕ} (h : Head code body level formals count word) where
  abbrev given : ℕ
  given = given_at width here

  abbrev first : ℕ
  first = here.fresh - formals

  abbrev to : ℕ
  to = (here.live + 1) * width

  abbrev lowest : ℕ
  lowest = 32 * (here.live + 1)

  -- few names, in an activation with room for its cells
  pub few-names : (formals ≤ 32) × (count ≤ 32) × (here.live + 1 < 256)
  few-names = (omega (arith, h.formals-is, w.formals-few, w.names-few), omega (arith, h.count-is, w.names-few), w.room)

  pub renewable : Renewable area given level first word
  renewable =
      record {
        fits = omega (arith, w.few-names);
        argument = λ l d. omega (
          arith,
          w.given-looked (ap level_in (sym h.word-is) ∙ l ∙ h.level-is) (ap direct (sym h.word-is) ∙ d),
          h.word-is,
          two-more here.live width,
          w.area-long,
        );
      }

  module _ {end : ℕ} (end_is : end ≡ end_at code body) where
    pub copyable : Copyable area names (link * width) to given level first lowest body end
    copyable =
        record {
          ordered = omega (arith, end_is, w.text);
          script = omega (arith, end_is, w.text-within);
          old-room = omega (arith, after, w.area-long, two-more here.live width);
          new-room = omega (arith, end_is, one_more here.live width, two-more here.live width, w.fits, w.area-long);
          apart = inr (omega (arith, after));
          fits = omega (arith, w.few-names);
          noting = omega (arith, w.room);
          arguments = λ q l m e d. omega (arith, w.given q l (omega (arith, end_is)) (e ∙ h.level-is) d, one_more here.live width);
        }
      where
        -- the text that is copied ends before the new room
        after : link * width + end ≤ to
        after = omega (arith, end_is, lower link here.live width w.link-high, one_more here.live width, w.fits)

    -- what the functions have made
    pub entered : {at new : ℕ} → at ≡ first_in (get_or code (body + 1) 0)
        → {cells : List ℤ} {blocks nexts links firsts starts targets looked : List ℕ} {cells' : List ℤ} {area' blocks' nexts' links' firsts' starts' targets' : List ℕ}
        → Noted blocks nexts links here body link back blocks' nexts' links'
        → NamesNoted firsts starts here formals firsts' starts'
        → new ≡ renewed area given level first word (get_or looked link 0)
        → Copied area area' names (link * width) to given level first body end
        → targets' ≡ noted_from targets names lowest level body (end - body)
        → Cleared cells (lowest + formals) (lowest + count) cells'
        → AnewIn code names width here body link back cells area blocks nexts links firsts starts targets looked cells' area' blocks' nexts' links' firsts' starts'
        targets' (set looked (here.live + 1) new)
        (record { live = here.live + 1; at = at; end = end; pairs = here.pairs; level = here.level; fresh = first + count })
    entered at-is {cells} {firsts} {starts} {targets} {looked} {cells'} {area'} {firsts'} {starts'} n m r k t z =
        record {
          noted = n;
          named = subst (λ (f : ℕ). NamesNoted firsts starts here f firsts' starts') h.formals-is m;
          copied = subst (λ (T : Type 0). T)
              (λ i. Copied area area' names (link * width) to given (h.level-is i) (here.fresh - h.formals-is i) body (end_is i)) k;
          targets-are = t ∙ (λ i. noted_from targets names lowest (h.level-is i) body (end_is i - body));
          looked-is = ap (set looked (here.live + 1)) (r
              ∙ (λ i. renewed area given (h.level-is i) (here.fresh - h.formals-is i) (h.word-is i) (get_or looked link 0)));
          cleared = subst (λ (T : Type 0). T) (λ i. Cleared cells (lowest + h.formals-is i) (lowest + h.count-is i) cells') z;
          registers-are = λ i. record {
            live = here.live + 1;
            at = at-is i;
            end = end_is i;
            pairs = here.pairs;
            level = here.level;
            fresh = here.fresh - h.formals-is i + h.count-is i;
          };
        }
