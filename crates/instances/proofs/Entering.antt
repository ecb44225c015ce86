-- Entering a block keeps the invariant: the copy is closed, with new names above all others.
use Rattle.std.specs.Prelude.{ℕ, ◌≤◌, ◌<◌, true, List, [], ◌∷◌, ◌++◌, map, ◌≡◌, refl, eqb, length}
use Rattle.std.proofs.Common.{append-nil, subst, ◌∙◌, arith}
use Rattle.std.proofs.Math.Option.{Option, none, some}
use Rattle.std.proofs.Math.Path.{sym, ap}
use Rattle.std.proofs.Math.ListN.{length-map}
use Rattle.language.specs.Basics.{lookup, zip, up_from}
use Rattle.language.specs.Text.{Kind, Formal, Block, block, Decls, Stmts, decls, block_decls, block_stmts, decl_name, decl_kind, formal_names, formal_kinds, declared_names}
use Rattle.language.specs.Scope.{agree}
use Rattle.language.specs.Copy.{Replacement, renamed, rename_block, rename_decls}
use Rattle.language.specs.Machine.{State, own_names, activation, enter}
use Rattle.laws.specs.Tests.{split, never, some_inj}
use Rattle.laws.specs.Kinds.{agree-first, agree-length}
use Rattle.laws.specs.Lookup.{lookup-nil, lookup-here, lookup-there, lookup-left, lookup-right, either, lookup_absent, among-neither, moved, each-found, each-zip, length-up_from, new-up_from, zip-absent}
use Rattle.laws.specs.Renaming.{renamed-none, renamed-some, decl_kinds-renamed, decl_names-renamed, own_new}
use Rattle.laws.specs.Rising.{rising-more, rising-within}
use Rattle.instances.proofs.Closed.{Kinds, decl_kinds, own_kinds, Written, InBlock, InDecls, InStmts}
use Rattle.instances.proofs.Renaming.{Keeps, keys-images, keys-own, renamed-labels, moved-decls, moved-stmts}
use Rattle.instances.proofs.Invariant.{kinds_in, live_kinds, CopyIn, AllSeen, Placed, Invariant, stacked-more}
use Rattle.instances.proofs.Found.{between}

-- arguments that agree have the formals' kinds
argument-of : (top : Kinds) (n : ℕ) (k : Kind) (fs : List Formal) (xs : List ℕ) → agree (formal_kinds fs) (map (λ (x : ℕ). lookup x top) xs) ≡ true →
    lookup n (zip (formal_names fs) (formal_kinds fs)) ≡ some k → (x : ℕ) × (lookup n (zip (formal_names fs) xs) ≡ some x) × (lookup x top ≡ some k)
unfolding zip formal_names formal_kinds agree
argument-of top n k [] xs m e = lookup-nil n k e
argument-of top n k (f ∷ fs) [] m e = never m refl
argument-of top n k (f ∷ fs) (x ∷ xs) m e =
    let a = agree-first f.kind (formal_kinds fs) (lookup x top) (map (λ (y : ℕ). lookup y top) xs) m in
    split (eqb n f.name)
    (λ t. (x, lookup-here n (f.name, x) (zip (formal_names fs) xs) t, a.0 ∙ sym (lookup-here n (f.name, f.kind) (zip (formal_names fs) (formal_kinds fs)) t) ∙ e))
    (λ d.
    let r = argument-of top n k fs xs a.1 (sym (lookup-there n (f.name, f.kind) (zip (formal_names fs) (formal_kinds fs)) d) ∙ e) in
    (r.0, lookup-there n (f.name, x) (zip (formal_names fs) xs) d ∙ r.1, r.2))

-- what a formal is replaced by is visible
seen_of : (top : Kinds) (n x : ℕ) (ns xs : List ℕ) → AllSeen top xs → lookup n (zip ns xs) ≡ some x → (k : Kind) × (lookup x top ≡ some k)
unfolding zip
seen_of top n x [] xs h e = lookup-nil n x e
seen_of top n x (m ∷ ns) [] h e = lookup-nil n x e
seen_of top n x (m ∷ ns) (y ∷ xs) h e =
    split (eqb n m)
    (λ t. (h.0.kind, subst (λ (z : ℕ). lookup z top ≡ some h.0.kind) (some_inj (sym (lookup-here n (m, y) (zip ns xs) t) ∙ e)) h.0.seen))
    (λ f. seen_of top n x ns xs h.1 (sym (lookup-there n (m, y) (zip ns xs) f) ∙ e))

-- A body with its formals is taken from where the names of K are visible, which is a part of all that is visible, `top`. Its new
-- names are to go on from `new`.
record Enters (top : Kinds) (fs : List Formal) (xs : List ℕ) (new : ℕ) (ds : Decls) (ss : Stmts) (K more : Kinds) : Type 0 where
  part : top ≡ K ++ more
  between : (x : ℕ) (k : Kind) → lookup x top ≡ some k → (65536 ≤ x) × (x < new)
  high : 65536 ≤ new
  seen : AllSeen top xs
  agrees : agree (formal_kinds fs) (map (λ (x : ℕ). lookup x top) xs) ≡ true
  written : Written (formal_names fs) ds ss

abbrev news : ℕ → Decls → List ℕ
news new ds = up_from new (length (map decl_name (decls ds)))

abbrev replaced : List Formal → List ℕ → ℕ → Decls → Replacement
replaced fs xs new ds = zip (formal_names fs) xs ++ zip (map decl_name (decls ds)) (news new ds)

module _ (top : Kinds) (fs : List Formal) (xs : List ℕ) (new : ℕ) (ds : Decls) (ss : Stmts) (K more : Kinds) (E : Enters top fs xs new ds ss K more) where
  as_many : length (formal_names fs) ≡ length xs
  unfolding formal_names formal_kinds
  as_many =
      length-map fs (λ (f : Formal). f.name) ∙ sym (length-map fs (λ (f : Formal). f.kind)) ∙
      sym (agree-length (formal_kinds fs) (map (λ (x : ℕ). lookup x top) xs) E.agrees) ∙ length-map xs (λ (x : ℕ). lookup x top)

  copy-names : map decl_name (decls (rename_decls ds (replaced fs xs new ds))) ≡ news new ds
  copy-names =
      decl_names-renamed ds (replaced fs xs new ds) ∙
      (rw append-nil at (own_new (formal_names fs) xs (map decl_name (decls ds)) (news new ds) [] as_many (sym (length-up_from new (length (map decl_name (decls ds))))) E.written.once))

  copy-kinds : decl_kinds (decls (rename_decls ds (replaced fs xs new ds))) ≡ zip (news new ds) (map decl_kind (decls ds))
  unfolding decl_kinds
  copy-kinds = rw (copy-names, decl_kinds-renamed ds (replaced fs xs new ds))

  abbrev after-entry : Kinds
  after-entry = top ++ zip (news new ds) (map decl_kind (decls ds))

  formal-carried : (n : ℕ) (k : Kind) → lookup n (zip (formal_names fs) (formal_kinds fs)) ≡ some k → lookup (renamed (replaced fs xs new ds) n) after-entry ≡ some k
  formal-carried n k e =
      let a = argument-of top n k fs xs E.agrees e in
      rw (renamed-some (replaced fs xs new ds) n a.0 (lookup-left n (zip (formal_names fs) xs) (zip (map decl_name (decls ds)) (news new ds)) a.0 a.1))
      (lookup-left a.0 top (zip (news new ds) (map decl_kind (decls ds))) k a.2)

  no-formal : (n : ℕ) → lookup n (zip (formal_names fs) (formal_kinds fs)) ≡ none → lookup n (zip (formal_names fs) xs) ≡ none
  unfolding formal_names formal_kinds
  no-formal n e =
      zip-absent n (formal_names fs) xs
      (rw (keys-images (λ (f : Formal). f.name) (λ (f : Formal). f.kind) fs) at (lookup_absent n (zip (formal_names fs) (formal_kinds fs)) e))

  not-in-top : (x : ℕ) → new ≤ x → lookup x top ≡ none
  not-in-top x h = by (lookup x top) refl
    where
      by : (o : Option Kind) → lookup x top ≡ o → lookup x top ≡ none
      by none e = e
      by (some k) e = let r = E.between x k e in absurd (omega arith)

  declared-carried : (n : ℕ) (k : Kind) → lookup n (zip (formal_names fs) (formal_kinds fs)) ≡ none → lookup n (decl_kinds (decls ds)) ≡ some k →
      lookup (renamed (replaced fs xs new ds) n) after-entry ≡ some k
  unfolding decl_kinds
  declared-carried n k absent e =
      let m = moved n (map decl_name (decls ds)) (map decl_kind (decls ds)) new k e in
      rw (renamed-some (replaced fs xs new ds) n m.0 (lookup-right n (zip (formal_names fs) xs) (zip (map decl_name (decls ds)) (news new ds)) (no-formal n absent) ∙ m.1))
      (lookup-right m.0 top (zip (news new ds) (map decl_kind (decls ds))) (not-in-top m.0 m.2) ∙ m.3)

  outer-kept : (n : ℕ) → lookup n (own_kinds fs ds) ≡ none → renamed (replaced fs xs new ds) n ≡ n
  outer-kept n absent =
      let none_of = among-neither n (formal_names fs) (map decl_name (decls ds)) (rw (keys-own fs ds) at (lookup_absent n (own_kinds fs ds) absent)) in
      renamed-none (replaced fs xs new ds) n
      (lookup-right n (zip (formal_names fs) xs) (zip (map decl_name (decls ds)) (news new ds)) (zip-absent n (formal_names fs) xs none_of.0) ∙
      zip-absent n (map decl_name (decls ds)) (news new ds) none_of.1)

  outer_carried : (n : ℕ) (k : Kind) → lookup n (own_kinds fs ds) ≡ none → lookup n K ≡ some k → lookup (renamed (replaced fs xs new ds) n) after-entry ≡ some k
  outer_carried n k absent e =
      rw (outer-kept n absent) (lookup-left n top (zip (news new ds) (map decl_kind (decls ds))) k (rw E.part (lookup-left n K more k e)))

  entry-carries : (n : ℕ) (k : Kind) → lookup n (own_kinds fs ds ++ K) ≡ some k → lookup (renamed (replaced fs xs new ds) n) after-entry ≡ some k
  unfolding own_kinds
  entry-carries n k e =
      either n (own_kinds fs ds) K k e
      (λ mine. either n (zip (formal_names fs) (formal_kinds fs)) (decl_kinds (decls ds)) k mine (λ h. formal-carried n k h) (λ h h'. declared-carried n k h h'))
      (λ h h'. outer_carried n k h h')

  -- what replaces a name is a new one
  replaced-high : (n x : ℕ) → lookup n (replaced fs xs new ds) ≡ some x → 65536 ≤ x
  replaced-high n x e =
      either n (zip (formal_names fs) xs) (zip (map decl_name (decls ds)) (news new ds)) x e
      (λ h. let r = seen_of top n x (formal_names fs) xs E.seen h in (E.between x r.0 r.1).0)
      (λ h h'. each-found (λ y. 65536 ≤ y) n x (zip (map decl_name (decls ds)) (news new ds)) (each-zip (λ y. 65536 ≤ y) (map decl_name (decls ds)) (news new ds) (new-up_from new (length (map decl_name (decls ds))) E.high)) h')

  entry-high : (n : ℕ) → renamed (replaced fs xs new ds) n < 65536 → renamed (replaced fs xs new ds) n ≡ n
  entry-high n b = by (lookup n (replaced fs xs new ds)) refl
    where
      by : (o : Option ℕ) → lookup n (replaced fs xs new ds) ≡ o → renamed (replaced fs xs new ds) n ≡ n
      by none e = renamed-none (replaced fs xs new ds) n e
      by (some x) e =
          let high = replaced-high n x e in
          let is : renamed (replaced fs xs new ds) n ≡ x = renamed-some (replaced fs xs new ds) n x e in
          absurd (omega arith)

  entry-keeps : Keeps (replaced fs xs new ds) (own_kinds fs ds ++ K) after-entry
  entry-keeps = record { carries = entry-carries; high = entry-high }

  copy-length : length (map decl_name (decls (rename_decls ds (replaced fs xs new ds)))) ≡ length (map decl_name (decls ds))
  copy-length = ap length copy-names ∙ length-up_from new (length (map decl_name (decls ds)))

  entry-placed : (at encloser : ℕ) (around : List Replacement) → InDecls ds (own_kinds fs ds ++ K) → InStmts ss (own_kinds fs ds ++ K) →
      Placed top (activation (formal_names fs) xs new (block at ds ss) encloser around)
  unfolding activation own_names rename_block declared_names block_decls block_stmts kinds_in CopyIn
  entry-placed at encloser around hd hs =
      record {
        closed = (
          renamed-labels ds ss (replaced fs xs new ds) (replaced fs xs new ds) E.written.labels,
          rw copy-kinds (moved-decls ds (replaced fs xs new ds) (own_kinds fs ds ++ K) after-entry entry-keeps hd),
          rw copy-kinds (moved-stmts ss (replaced fs xs new ds) (own_kinds fs ds ++ K) after-entry entry-keeps hs),
        );
        given = E.seen;
        begun = omega arith;
        within = omega arith;
      }

  entry_length : (at encloser : ℕ) (around : List Replacement) →
      length (block_decls (activation (formal_names fs) xs new (block at ds ss) encloser around).text) ≡ length (declared_names (block at ds ss))
  unfolding activation own_names rename_block declared_names block_decls
  entry_length at encloser around = sym (length-map (decls (rename_decls ds (replaced fs xs new ds))) decl_name) ∙ copy-length

  entry-names : (at encloser : ℕ) (around : List Replacement) →
      declared_names (activation (formal_names fs) xs new (block at ds ss) encloser around).text ≡ up_from new (length (block_decls (activation (formal_names fs) xs new (block at ds ss) encloser around).text))
  unfolding activation own_names rename_block declared_names block_decls
  entry-names at encloser around = copy-names ∙ ap (up_from new) (sym (entry_length at encloser around))

-- A block whose text is closed where the names of K are visible, entered with arguments of its formals' kinds.
pub entered : (s : State) (fs : List Formal) (xs : List ℕ) (b : Block) (encloser : ℕ) (around : List Replacement) (K more : Kinds) → Invariant s →
    live_kinds s.live ≡ K ++ more → AllSeen (live_kinds s.live) xs →
    agree (formal_kinds fs) (map (λ (x : ℕ). lookup x (live_kinds s.live)) xs) ≡ true → InBlock b fs K → Invariant (enter s (formal_names fs) xs b encloser around)
unfolding enter InBlock
entered s fs xs (block at ds ss) encloser around K more inv part seen agrees h =
    let top : Kinds = live_kinds s.live in
    let E : Enters top fs xs s.fresh ds ss K more =
    record {
      part = part;
      between = between s inv;
      high = rising-within 65536 s.live s.fresh inv.rising;
      seen = seen;
      agrees = agrees;
      written = h.0;
    } in
    let a = activation (formal_names fs) xs s.fresh (block at ds ss) encloser around in
    record {
      rising =
          rw (entry_length top fs xs s.fresh ds ss K more E at encloser around) at
          (rising-more 65536 s.live s.fresh a inv.rising (entry-names top fs xs s.fresh ds ss K more E at encloser around));
      stacked = stacked-more [] s.live a inv.stacked (entry-placed top fs xs s.fresh ds ss K more E at encloser around h.1 h.2);
    }
