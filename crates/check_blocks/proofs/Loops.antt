-- Where the loops over a block's declarations and statements stand: what is left to read goes on as the whole does. Assumes nothing.
use Rattle.std.specs.Prelude.{Ok, Err}
use mathlib.Core.Path.{◌≡◌, refl, sym, ◌∙◌, ap}
use mathlib.Core.List.{List, [], ◌∷◌, ◌++◌}
use Prim.Native.Nat.{ℕ, suc, ◌+◌, ◌-◌, ◌<◌, ◌≤◌}
use native.Mathlib.Omega.{arith}
use lib.ListN.{length, set}
use Rattle.language.specs.Basics.{among}
use Rattle.language.specs.Structure.{refuse, Reader, BlockReader, declarations, statements}
use Rattle.language.specs.declared.Refusal.{Refusal}
use Rattle.check_marks.specs.declared.Mark.{Mark}
use Rattle.check_marks.specs.declared.Place.TheVariants.{Declaration, Statement}
use Rattle.language.specs.Faults.{fault, Progress}
use Rattle.check_records.specs.declared.Reading.{Reading}
use Rattle.check_records.specs.declared.Reading.TheVariants.{Taken, Refused as Untaken}
use Rattle.check_records.specs.Taking.{unread, record_at, progress_of, forget}
use Rattle.check_names.specs.Naming.{names_at}
use Rattle.check_bounds.specs.Marks.{decl_mark_of, stmt_mark_of}
use Rattle.check_bounds.specs.Judging.{ranged_of, once_at, headed, heading_at, FewFormals}
use Rattle.check_blocks.specs.Progress.{below_of, stated_of}
use Rattle.check_blocks.proofs.Lands.{AllTrack}
use Rattle.check_names.proofs.Names.{names-added}
use Rattle.check_names.proofs.SameNames.{same-snoc}
use Rattle.check_blocks.proofs.SameDecls.{declarations-same}
use Rattle.check_blocks.proofs.DeclLaws.{decls-stop, own-stops, below-stops, decl-onward, decls-more, decls-none}
use Rattle.check_bounds.proofs.HeadLaws.{own_at, judged-refused, head-taken}
use Rattle.check_blocks.proofs.StmtLaws.{stmts-stop, stmt-stops, stmt-onward, stmts-more, stmts-none}

less_none : (d : ℕ) → d - 0 ≡ d
less_none d = omega arith

fewer : (d i : ℕ) → i < d → d - i ≡ suc (d - (i + 1))
fewer d i h = omega arith

none_left : (d i : ℕ) → d ≤ i → d - i ≡ 0
none_left d i h = omega arith

-- i of d declarations read: what is left, from `at` on, with the names held
pub record DeclsLeft (body : BlockReader) (s d : ℕ) (seen bs : List ℕ) (start : ℕ) (names : List ℕ) (base held at i : ℕ) : Type 0 where
  pub onward : start ≤ at
  pub rest : forget (declarations body s d seen start (unread bs start)) ≡ forget (declarations body s (d - i) (names_at names base (held + i)) at (unread bs at))

module _ (body : BlockReader) (s d : ℕ) (bs : List ℕ) (start base held : ℕ) where
  pub decls-start : (names : List ℕ) → DeclsLeft body s d (names_at names base held) bs start names base held start 0
  decls-start names =
      record {
        onward = omega arith;
        rest = sym (ap (λ k. forget (declarations body s k (names_at names base (held + 0)) start (unread bs start))) (less_none d) ∙ ap (λ k. forget (declarations body s d (names_at names base k) start (unread bs start))) held_all);
      }
    where
      held_all : held + 0 ≡ held
      held_all = omega arith

-- what the code's answers say: each law takes an answer, what it is equal to, and which it is
module _ {body : BlockReader} {s d : ℕ} {seen bs : List ℕ} {start : ℕ} {names : List ℕ} {base held at i : ℕ} (h : AllTrack bs body) (l : DeclsLeft body s d seen bs start names base held at i) where
  abbrev names-so-far : List ℕ
  names-so-far = names_at names base (held + i)

  abbrev all-decls : Progress
  all-decls = forget (declarations body s d seen start (unread bs start))

  module _ (more : i < d) where
    one_of : all-decls ≡ forget (declarations body s (suc (d - (i + 1))) names-so-far at (unread bs at))
    one_of = l.rest ∙ ap (λ k. forget (declarations body s k names-so-far at (unread bs at))) (fewer d i more)

    ends : {c : Refusal} {o : ℕ} → declarations body s (suc (d - (i + 1))) names-so-far at (unread bs at) ≡ refuse c o → Err (fault c o) ≡ all-decls
    unfolding forget
    ends e = sym (one_of ∙ ap forget e)

    refused_as : {c : Refusal} {o : ℕ} (r : Reading) → record_at Declaration bs at ≡ r → headed r at s names-so-far ≡ Untaken c o → Err (fault c o) ≡ all-decls
    unfolding headed
    refused_as (Taken m next f0 f1 f2 f3) e q =
        ends (own-stops body s (d - (i + 1)) names-so-far bs at h e (judged-refused _ m next f0 f1 f2 f3 q))
    refused_as {c} {o} (Untaken b k) e q = ends (decls-stop body s (d - (i + 1)) names-so-far bs at h c o (e ∙ q))

    pub head-refused : {x : Reading} {y : Progress} {c : Refusal} {o : ℕ} → x ≡ heading_at bs at s names-so-far → x ≡ Untaken c o → y ≡ progress_of x → y ≡ all-decls
    head-refused f g e = e ∙ ap progress_of g ∙ refused_as (record_at Declaration bs at) refl (sym f ∙ g)

    module _ {x : Reading} {m : Mark} {next f0 f1 f2 f3 : ℕ} (f : x ≡ heading_at bs at s names-so-far) (g : x ≡ Taken m next f0 f1 f2 f3) where
      took : (record_at Declaration bs at ≡ Taken m next f0 f1 f2 f3) × (once_at (ranged_of (decl_mark_of m) at next f1 s) (among f0 names-so-far) at ≡ Ok next)
      took = head-taken at s names-so-far (record_at Declaration bs at) (sym f ∙ g)

      pub few-formals : FewFormals (decl_mark_of m) f1
      few-formals = (own_at (decl_mark_of m) at next f1 s next (among f0 names-so-far) took.1).1

      module _ {r : Progress} (e : r ≡ below_of body (decl_mark_of m) f1 next (unread bs next)) where
        pub below-refused : {c : Refusal} {o : ℕ} → r ≡ Err (fault c o) → r ≡ all-decls
        below-refused q = q ∙ ends (below-stops body s (d - (i + 1)) names-so-far bs at h took.0 took.1 (sym e ∙ q))

        pub decls-again : {end : ℕ} (names' : List ℕ) → r ≡ Ok end → at ≤ next → names_at names' base (held + i) ≡ names-so-far → base + (held + i) < length names' → DeclsLeft body s d seen bs start (set names' (base + (held + i)) f0) base held end (i + 1)
        decls-again {end} names' q go kept room =
            record {
              onward =
                  let a = l.onward in
                  let b = decl-onward body s (d - (i + 1)) names-so-far bs at h took.0 took.1 (sym e ∙ q) in omega arith;
              rest =
                  one_of
                  ∙ decls-more body s (d - (i + 1)) names-so-far bs at h took.0 took.1 (sym e ∙ q)
                  ∙ ap (λ (r : Reader _). forget (r end (unread bs end)))
                  (declarations-same body s (d - (i + 1)) (f0 ∷ names-so-far) (names-so-far ++ (f0 ∷ [])) (same-snoc names-so-far f0)
                  ∙ ap (declarations body s (d - (i + 1))) (sym added));
            }
          where
            one_more : held + (i + 1) ≡ held + i + 1
            one_more = omega arith

            added : names_at (set names' (base + (held + i)) f0) base (held + (i + 1)) ≡ names-so-far ++ (f0 ∷ [])
            added =
                ap (names_at (set names' (base + (held + i)) f0) base) one_more
                ∙ names-added names' base (held + i) f0 room ∙ ap (λ ns. ns ++ (f0 ∷ [])) kept

  pub decls-end : d ≤ i → Ok at ≡ all-decls
  decls-end h = sym (l.rest ∙ ap (λ k. forget (declarations body s k names-so-far at (unread bs at))) (none_left d i h) ∙ decls-none body s names-so-far at (unread bs at))

-- i of s statements read
pub record StmtsLeft (body : BlockReader) (s : ℕ) (bs : List ℕ) (start at i : ℕ) : Type 0 where
  pub onward : start ≤ at
  pub rest : forget (statements body s start (unread bs start)) ≡ forget (statements body (s - i) at (unread bs at))

pub stmts-start : (body : BlockReader) (s : ℕ) (bs : List ℕ) (start : ℕ) → StmtsLeft body s bs start start 0
stmts-start body s bs start =
    record {
      onward = omega arith;
      rest = sym (ap (λ k. forget (statements body k start (unread bs start))) (less_none s));
    }

module _ {body : BlockReader} {s : ℕ} {bs : List ℕ} {start at i : ℕ} (h : AllTrack bs body) (l : StmtsLeft body s bs start at i) where
  abbrev all-stmts : Progress
  all-stmts = forget (statements body s start (unread bs start))

  module _ (more : i < s) where
    one-stmt : all-stmts ≡ forget (statements body (suc (s - (i + 1))) at (unread bs at))
    one-stmt = l.rest ∙ ap (λ k. forget (statements body k at (unread bs at))) (fewer s i more)

    stmts-ends : {c : Refusal} {o : ℕ} → statements body (suc (s - (i + 1))) at (unread bs at) ≡ refuse c o → Err (fault c o) ≡ all-stmts
    unfolding forget
    stmts-ends e = sym (one-stmt ∙ ap forget e)

    pub stmt-refused : {x : Reading} {y : Progress} {c : Refusal} {o : ℕ} → x ≡ record_at Statement bs at → x ≡ Untaken c o → y ≡ progress_of x → y ≡ all-stmts
    stmt-refused {c = c} {o} f g e = e ∙ ap progress_of g ∙ stmts-ends (stmts-stop body (s - (i + 1)) bs at h c o (sym f ∙ g))

    module _ {x : Reading} {m : Mark} {next f0 f1 f2 f3 : ℕ} (f : x ≡ record_at Statement bs at) (g : x ≡ Taken m next f0 f1 f2 f3) {r : Progress} (e : r ≡ stated_of body (stmt_mark_of m) at f0 f1 next (unread bs next)) where
      pub inner-refused : {c : Refusal} {o : ℕ} → r ≡ Err (fault c o) → r ≡ all-stmts
      inner-refused q = q ∙ stmts-ends (stmt-stops body (s - (i + 1)) bs at h (sym f ∙ g) (sym e ∙ q))

      pub stmts-again : {end : ℕ} → r ≡ Ok end → at ≤ next → StmtsLeft body s bs start end (i + 1)
      stmts-again q go =
          record {
            onward =
                let a = l.onward in
                let b = stmt-onward body (s - (i + 1)) bs at h (sym f ∙ g) (sym e ∙ q) in omega arith;
            rest = one-stmt ∙ stmts-more body (s - (i + 1)) bs at h (sym f ∙ g) (sym e ∙ q);
          }

  pub stmts-end : s ≤ i → Ok at ≡ all-stmts
  stmts-end h = sym (l.rest ∙ ap (λ k. forget (statements body k at (unread bs at))) (none_left s i h) ∙ stmts-none body at (unread bs at))
