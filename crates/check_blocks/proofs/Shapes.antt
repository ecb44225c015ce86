-- A block and a procedure's body in the shape of the code: levels counted down, names by their base. Assumes nothing.
use Rattle.std.specs.Prelude.{Ok, Err}
use mathlib.Core.Path.{◌≡◌, sym, ◌∙◌, ap, ap₂, subst}
use mathlib.Core.List.{List, []}
use Prim.Native.Nat.{ℕ, suc, ◌+◌, ◌-◌, ◌≤◌}
use native.Mathlib.Omega.{arith}
use lib.ListN.{length, take}
use Rattle.language.specs.Text.{Formal, Decls, formal_names}
use Rattle.language.specs.Structure.{Reading as Outcome, BlockReader, formals, declarations, statements, block_with}
use Rattle.language.specs.declared.Refusal.{Refusal}
use Rattle.check_marks.specs.declared.Mark.{Mark}
use Rattle.check_marks.specs.declared.Mark.TheVariants.{PR}
use Rattle.check_marks.specs.declared.Place.TheVariants.{Block}
use Rattle.language.specs.Faults.{fault, Progress}
use Rattle.check_records.specs.declared.Reading.{Reading}
use Rattle.check_records.specs.declared.Reading.TheVariants.{Taken}
use Rattle.check_records.specs.Taking.{unread, record_at, progress_of, forget}
use Rattle.check_names.specs.Naming.{names_at}
use Rattle.check_names.specs.Naming.{NamesOf}
use Rattle.check_bounds.specs.Marks.{decl_mark_of}
use Rattle.check_bounds.specs.Judging.{opened_of}
use Rattle.check_bounds.proofs.BlockTests.{Passed}
use Rattle.check_blocks.specs.Progress.{base_of, body_of, below_of}
use Rattle.check_blocks.proofs.MarkCases.{body_below}
use Rattle.check_names.proofs.Names.{names-length}
use Rattle.check_blocks.proofs.Lands.{Landed, landed, turned-away, tracks-formals}
use Rattle.check_blocks.proofs.BlockLaws.{block-unopened, block-stops, decls-onward, block-goes-on, head-stops, head-goes-on, body-stops, body-goes-on}

-- A block that has room for the names held. Each law takes an answer r of the code, what it is equal to, and which it is.
module _ (bs names : List ℕ) (left at d s held next : ℕ) (room : base_of left + held ≤ length names) where
  abbrev fs : List ℕ
  fs = names_at names (base_of left) held

  abbrev whole : Progress
  whole = forget (block_with left at d s fs next (unread bs next))

  counted : length fs ≡ held
  counted = names-length names (base_of left) held room

  pub unopened : {r : Progress} {c : Refusal} {o : ℕ} → r ≡ opened_of left at next d held → r ≡ Err (fault c o) → r ≡ whole
  unopened e q = q ∙ sym (block-unopened at d s fs bs next left (ap (opened_of left at next d) counted ∙ (sym e ∙ q)))

  module _ {first : ℕ} (p : Passed left next d held first) where
    one_down : left ≡ suc (left - 1)
    one_down = let z = p.positive in omega arith

    downward : whole ≡ forget (block_with (suc (left - 1)) at d s fs next (unread bs next))
    downward = ap (λ k. forget (block_with k at d s fs next (unread bs next))) one_down

    few : length fs + d ≤ 32
    few = let e = counted in let h = p.few in omega arith

    level : left - 1 + 1 ≡ left
    level = let e = one_down in omega arith

    -- the level of the declarations is the block's
    pub same-front : (names' : List ℕ) → take (base_of (left - 1 + 1)) names' ≡ take (base_of (left - 1 + 1)) names → take (base_of left) names' ≡ take (base_of left) names
    same-front names' e = subst (λ k. take (base_of k) names' ≡ take (base_of k) names) level e

    abbrev inner : Outcome Decls
    inner = declarations (block_with (left - 1)) s d (names_at names (base_of (left - 1 + 1)) held) first (unread bs first)

    same-level : inner ≡ declarations (block_with (left - 1)) s d fs next (unread bs next)
    same-level = ap₂ (λ k o. declarations (block_with (left - 1)) s d (names_at names (base_of k) held) o (unread bs o)) level p.from_is

    pub decls-refused : {r : Progress} {c : Refusal} {o : ℕ} → r ≡ forget inner → r ≡ Err (fault c o) → r ≡ whole
    decls-refused e q =
        q ∙ sym (downward ∙ block-stops (left - 1) at d s fs bs next few (sym (ap forget same-level) ∙ (sym e ∙ q)))

    module _ {r : Progress} {rest : ℕ} (e : r ≡ forget inner) (q : r ≡ Ok rest) where
      inner-at : forget (declarations (block_with (left - 1)) s d fs next (unread bs next)) ≡ Ok rest
      inner-at = sym (ap forget same-level) ∙ (sym e ∙ q)

      pub rest-onward : next ≤ rest
      rest-onward = decls-onward (left - 1) at d s fs bs next inner-at

      pub rest-is : {y : Progress} → y ≡ forget (statements (block_with (left - 1)) s rest (unread bs rest)) → y ≡ whole
      rest-is f = f ∙ sym (downward ∙ block-goes-on (left - 1) at d s fs bs next inner-at few)

-- a procedure's formals, its BK and its block, after its own record
module _ (body : BlockReader) (p : ℕ) (bs : List ℕ) (start : ℕ) (m : Mark) (is-PR : m ≡ PR) where
  abbrev first : Outcome (List Formal)
  first = formals p [] start (unread bs start)

  abbrev below : Progress
  below = below_of body (decl_mark_of m) p start (unread bs start)

  below-is : forget (body_of body p start (unread bs start)) ≡ below
  below-is = body_below body p start (unread bs start) m is-PR

  pub formals-refused : {r : Progress} {c : Refusal} {o : ℕ} → r ≡ forget first → r ≡ Err (fault c o) → r ≡ below
  unfolding forget
  formals-refused e q = q ∙ sym (ap forget (body-stops body p bs start (turned-away first (sym e ∙ q)))) ∙ below-is

  module _ {r : Progress} {at : ℕ} (e : r ≡ forget first) (q : r ≡ Ok at) where
    there : Landed bs start at first
    there = landed bs start at first ((tracks-formals bs p []).lands start) (sym e ∙ q)

    pub formals-onward : start ≤ at
    formals-onward = there.onward

    pub head-refused : {x : Reading} {y : Progress} {c : Refusal} {o : ℕ} → x ≡ record_at Block bs at → x ≡ Reading.Refused c o → y ≡ progress_of x → y ≡ below
    unfolding forget
    head-refused {c = c} {o} f g h =
        h ∙ ap progress_of g
        ∙ sym (ap forget (body-goes-on body p bs start there.reads ∙ head-stops body (formal_names there.value) bs at c o (sym f ∙ g)))
        ∙ below-is

    names-are : (ns : List ℕ) → NamesOf first ns → ns ≡ formal_names there.value
    names-are ns h = subst (λ x. NamesOf x ns) there.reads h

    pub body_is : {x : Reading} {y : Progress} {m' : Mark} {next f0 f1 f2 f3 : ℕ} (ns : List ℕ) → NamesOf first ns → x ≡ record_at Block bs at → x ≡ Taken m' next f0 f1 f2 f3 → y ≡ forget (body at f0 f1 ns next (unread bs next)) → y ≡ below
    body_is {next = next} {f0} {f1} ns h f g b =
        b ∙ ap (λ l. forget (body at f0 f1 l next (unread bs next))) (names-are ns h)
        ∙ sym (ap forget (body-goes-on body p bs start there.reads ∙ head-goes-on body (formal_names there.value) bs at (sym f ∙ g)))
        ∙ below-is
