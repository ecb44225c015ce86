-- One more declaration, statement or formal after those that are there: its fields, its names and what is formed.
use Rattle.std.specs.Prelude.{ℕ, ◌+◌, ◌*◌, Bool, true, false, List, [], ◌∷◌, ◌++◌, map, ◌≡◌, refl, eqb, length}
use Rattle.std.proofs.Common.{arith, append_assoc, append-nil, sym, ap, ◌∙◌, subst, length-append}
use Rattle.language.specs.Basics.{among}
use Rattle.language.specs.Text.{Formal, Decl, Stmt, Decls, no-decl, decl, Stmts, no-stmt, stmt, decls, stmts, decl_name, formal_names}
use Rattle.language.specs.Encoding.{FM-mark, kind_field, formals_fields, decl_fields, stmt_fields, decls_fields, stmts_fields}
use Rattle.laws.specs.Distinct.{Distinct, fresh-distinct}
use Rattle.grammar.specs.Rules.{Name, FormedFormals, FormedDecl, FormedStmt, FormedDecls, FormedStmts}
use Rattle.causes.specs.Places.{names}

-- where the next piece stands
further : (here : ℕ) (xs ys : List ℕ) → here + 2 * length (xs ++ ys) ≡ here + 2 * length xs + 2 * length ys
further here xs ys = omega (arith, length-append xs ys)

unfoldable pub more_decls : Decls → Decl → Decls
more_decls no-decl d = decl d no-decl
more_decls (decl x xs) d = decl x (more_decls xs d)

unfoldable pub more_stmts : Stmts → Stmt → Stmts
more_stmts no-stmt s = stmt s no-stmt
more_stmts (stmt x xs) s = stmt x (more_stmts xs s)

pub more-decls : (ds : Decls) (d : Decl) → decls (more_decls ds d) ≡ decls ds ++ (d ∷ [])
unfolding more_decls decls
more-decls no-decl d = refl
more-decls (decl x xs) d = ap (x ∷◌) (more-decls xs d)

pub more-decls-fields : (ds : Decls) (d : Decl) → decls_fields (more_decls ds d) ≡ decls_fields ds ++ decl_fields d
unfolding more_decls decls_fields
more-decls-fields no-decl d = append-nil (decl_fields d)
more-decls-fields (decl x xs) d = rw append_assoc (ap (decl_fields x ++◌) (more-decls-fields xs d))

pub more-decls-formed : (ds : Decls) (d : Decl) (level s here : ℕ) → FormedDecls ds level s here → FormedDecl d level s (here + 2 * length (decls_fields ds))
    → FormedDecls (more_decls ds d) level s here
unfolding more_decls decls_fields FormedDecls
more-decls-formed no-decl d level s here h k = let e : here + 2 * 0 ≡ here = omega arith in (subst (FormedDecl d level s) e k, tt)
more-decls-formed (decl x xs) d level s here h k =
    (h.0, more-decls-formed xs d level s (here + 2 * length (decl_fields x)) h.1 (subst (FormedDecl d level s) (further here (decl_fields x) (decls_fields xs)) k))

pub more-stmts : (ss : Stmts) (x : Stmt) → stmts (more_stmts ss x) ≡ stmts ss ++ (x ∷ [])
unfolding more_stmts stmts
more-stmts no-stmt x = refl
more-stmts (stmt y ys) x = ap (y ∷◌) (more-stmts ys x)

pub more-stmts-fields : (ss : Stmts) (x : Stmt) → stmts_fields (more_stmts ss x) ≡ stmts_fields ss ++ stmt_fields x
unfolding more_stmts stmts_fields
more-stmts-fields no-stmt x = append-nil (stmt_fields x)
more-stmts-fields (stmt y ys) x = rw append_assoc (ap (stmt_fields y ++◌) (more-stmts-fields ys x))

pub more-stmts-formed : (ss : Stmts) (x : Stmt) (level here : ℕ) → FormedStmts ss level here → FormedStmt x level (here + 2 * length (stmts_fields ss))
    → FormedStmts (more_stmts ss x) level here
unfolding more_stmts stmts_fields FormedStmts
more-stmts-formed no-stmt x level here h k = let e : here + 2 * 0 ≡ here = omega arith in (subst (FormedStmt x level) e k, tt)
more-stmts-formed (stmt y ys) x level here h k =
    (h.0, more-stmts-formed ys x level (here + 2 * length (stmt_fields y)) h.1 (subst (FormedStmt x level) (further here (stmt_fields y) (stmts_fields ys)) k))

pub more-formals-fields : (gs : List Formal) (g : Formal) → formals_fields (gs ++ (g ∷ [])) ≡ formals_fields gs ++ (FM-mark ∷ g.name ∷ kind_field g.kind ∷ [])
unfolding formals_fields
more-formals-fields [] g = refl
more-formals-fields (f ∷ fs) g = let e = more-formals-fields fs g in cc

pub more-formals-formed : (gs : List Formal) (g : Formal) (here : ℕ) → FormedFormals gs here → g.at ≡ here + 2 * length (formals_fields gs) → Name g.name
    → FormedFormals (gs ++ (g ∷ [])) here
unfolding formals_fields FormedFormals
more-formals-formed [] g here h e n = record { stands = omega arith; name = n; rest = tt }
more-formals-formed (f ∷ fs) g here h e n = record { stands = h.stands; name = h.name; rest = more-formals-formed fs g (here + 6) h.rest (omega arith) n }

-- names
map_snoc : {A B : Type 0} (f : A → B) (xs : List A) (x : A) → map f (xs ++ (x ∷ [])) ≡ map f xs ++ (f x ∷ [])
map_snoc f [] x = refl
map_snoc f (y ∷ ys) x = ap (f y ∷◌) (map_snoc f ys x)

pub more-formals-names : (gs : List Formal) (g : Formal) → formal_names (gs ++ (g ∷ [])) ≡ formal_names gs ++ (g.name ∷ [])
unfolding formal_names
more-formals-names gs g = map_snoc (λ (f : Formal). f.name) gs g

pub more-names : (fs : List Formal) (ds : List Decl) (d : Decl) → names fs (ds ++ (d ∷ [])) ≡ names fs ds ++ (decl_name d ∷ [])
unfolding names
more-names fs ds d = ap (formal_names fs ++◌) (map_snoc decl_name ds d) ∙ sym (append_assoc (formal_names fs) (map decl_name ds) (decl_name d ∷ []))

-- the same names, whatever their order
abbrev pub Alike : List ℕ → List ℕ → Type 0
Alike xs ys = (m : ℕ) → among m xs ≡ among m ys

among-middle : (m n : ℕ) (xs ys : List ℕ) → among m (n ∷ (xs ++ ys)) ≡ among m (xs ++ (n ∷ ys))
unfolding among
among-middle m n [] ys = refl
among-middle m n (x ∷ xs) ys = go (eqb m n) refl (eqb m x) refl (among-middle m n xs ys)
  where
    go : (a : Bool) → eqb m n ≡ a → (b : Bool) → eqb m x ≡ b → among m (n ∷ (xs ++ ys)) ≡ among m (xs ++ (n ∷ ys)) → among m (n ∷ x ∷ (xs ++ ys)) ≡ among m ((x ∷ xs) ++ (n ∷ ys))
    go true e true f h = rw (e, f, among)
    go true e false f h = rw (e, f, among) (rw (e, among) at h)
    go false e true f h = rw (e, f, among)
    go false e false f h = rw (e, f, among) (rw (e, among) at h)

among-cons : (m n : ℕ) (xs ys : List ℕ) → among m xs ≡ among m ys → among m (n ∷ xs) ≡ among m (n ∷ ys)
unfolding among
among-cons m n xs ys e = ap (λ (t : Bool). elim (eqb m n) as (λ y. Bool) [ true ↦ true | false ↦ t ]) e

pub alike-middle : (n : ℕ) (xs ys : List ℕ) → Alike (n ∷ (xs ++ ys)) (xs ++ (n ∷ ys))
alike-middle n xs ys m = among-middle m n xs ys

pub alike_end : (xs : List ℕ) → Alike xs (xs ++ [])
alike_end xs m = ap (among m) (sym (append-nil xs))

pub alike-more : (n : ℕ) (xs ys : List ℕ) → Alike xs ys → Alike (n ∷ xs) (ys ++ (n ∷ []))
alike-more n xs ys h m = among-cons m n xs (ys ++ []) (h m ∙ alike_end ys m) ∙ among-middle m n ys []

pub distinct_more : (ns : List ℕ) (n : ℕ) → Distinct ns → among n ns ≡ false → Distinct (ns ++ (n ∷ []))
distinct_more ns n d e = fresh-distinct ns (n ∷ []) d (e, tt)
