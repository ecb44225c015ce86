-- One word for each field. `block-length` (and so for declarations, statements, actions and formals): the resolved text has as many words as the
-- text has fields. `covers-first`, `covers-second`, `covers-append`, `covers-iff`: what stands end to end; `covers_at`: the word at an index;
-- `covers-front`, `covers_self`: a list holds what it begins with, and itself.
use Rattle.std.specs.Prelude.{ℕ, zero, suc, ◌+◌, ◌*◌, ◌<◌, List, [], ◌∷◌, ◌++◌, ◌↔◌, ◌≡◌, refl, length, get_or}
use Rattle.std.proofs.Common.{arith, not-suc-le-zero, le_of_suc-le-suc, append_assoc, append-nil, ap, ◌∙◌, subst, length-append}
use Rattle.std.proofs.lemmas.List.{length-map}
use Rattle.std.proofs.Math.Seq.{get_or-append_seam}
use Rattle.language.specs.Text.{Formal, Action, CL, GO, IF, KN, AR, AD, RM, QY, Block, block, Decl, VR, LB, PR, Stmt, BK, DO, Decls, no-decl, decl, Stmts, no-stmt, stmt}
use Rattle.language.specs.Encoding.{action_fields, formals_fields, block_fields, decl_fields, stmt_fields, decls_fields, stmts_fields}
use Rattle.laws.specs.Lists.{lengths-append}
use Rattle.coordinates.specs.Enclosure.{enclosed, Enclosure}
use Rattle.resolved.specs.Resolved.{name_word, resolved_action, header, resolved_formals, resolved_block, resolved_decl, resolved_stmt, resolved_decls, resolved_stmts, Covers}

pub action-length : (es : Enclosure) (a : Action) → length (resolved_action es a) ≡ length (action_fields a)
unfolding resolved_action action_fields
action-length es (CL p xs) = let h = length-map xs (name_word es) in omega arith
action-length es (GO l) = refl
action-length es (IF v l) = refl
action-length es (KN t z) = refl
action-length es (AR t o l r) = refl
action-length es (AD g m) = refl
action-length es (RM g m) = refl
action-length es (QY t g m) = refl

pub formals-length : (fs : List Formal) → length (resolved_formals fs) ≡ length (formals_fields fs)
unfolding resolved_formals formals_fields
formals-length [] = refl
formals-length (f ∷ fs) = ap (λ n. suc (suc (suc n))) (formals-length fs)

-- three fields each
pub formals-fields : (fs : List Formal) → length (formals_fields fs) ≡ 3 * length fs
unfolding formals_fields
formals-fields [] = omega arith
formals-fields (f ∷ fs) = omega (arith, formals-fields fs)

module _ (name : ℕ) where
  mutual
    unfolding resolved_block header block_fields

    pub block-length : (b : Block) (fs : List Formal) (es : Enclosure) → length (resolved_block name b fs es) ≡ length (block_fields b)
    block-length (block at ds ss) fs es =
        let os = enclosed fs (block at ds ss) ∷ es in
        ap (λ n. suc (suc (suc n))) (lengths-append (resolved_decls name ds os) (resolved_stmts name ss os) (decls_fields ds) (stmts_fields ss) (decls-length ds os) (stmts-length ss os))

    pub decl-length : (d : Decl) (es : Enclosure) → length (resolved_decl name d es) ≡ length (decl_fields d)
    decl-length (VR at n) es = refl
    decl-length (LB at n i) es = refl
    decl-length (PR at n fs b) es =
        ap (λ n. suc (suc (suc n))) (lengths-append (resolved_formals fs) (resolved_block name b fs es) (formals_fields fs) (block_fields b) (formals-length fs) (block-length b fs es))

    pub stmt-length : (s : Stmt) (es : Enclosure) → length (resolved_stmt name s es) ≡ length (stmt_fields s)
    stmt-length (BK b) es = block-length b [] es
    stmt-length (DO at a) es = action-length es a

    pub decls-length : (ds : Decls) (es : Enclosure) → length (resolved_decls name ds es) ≡ length (decls_fields ds)
    decls-length no-decl es = refl
    decls-length (decl d ds) es = lengths-append (resolved_decl name d es) (resolved_decls name ds es) (decl_fields d) (decls_fields ds) (decl-length d es) (decls-length ds es)

    pub stmts-length : (ss : Stmts) (es : Enclosure) → length (resolved_stmts name ss es) ≡ length (stmts_fields ss)
    stmts-length no-stmt es = refl
    stmts-length (stmt s ss) es = lengths-append (resolved_stmt name s es) (resolved_stmts name ss es) (stmt_fields s) (stmts_fields ss) (stmt-length s es) (stmts-length ss es)

-- Words end to end

module _ (code : List ℕ) where
  pub covers-first : (p : ℕ) (xs ys : List ℕ) → Covers code p (xs ++ ys) → Covers code p xs
  covers-first p [] ys h = tt
  covers-first p (x ∷ xs) ys h = (h.0, covers-first (p + 1) xs ys h.1)

  pub covers-second : (p : ℕ) (xs ys : List ℕ) → Covers code p (xs ++ ys) → Covers code (p + length xs) ys
  covers-second p [] ys h = let e : p ≡ p + 0 = omega arith in subst (λ q. Covers code q ys) e h
  covers-second p (x ∷ xs) ys h =
      let e : p + 1 + length xs ≡ p + suc (length xs) = omega arith in
      subst (λ q. Covers code q ys) e (covers-second (p + 1) xs ys h.1)

  pub covers-append : (p : ℕ) (xs ys : List ℕ) → Covers code p xs → Covers code (p + length xs) ys → Covers code p (xs ++ ys)
  covers-append p [] ys h k = let e : p + 0 ≡ p = omega arith in subst (λ q. Covers code q ys) e k
  covers-append p (x ∷ xs) ys h k =
      let e : p + suc (length xs) ≡ p + 1 + length xs = omega arith in
      (h.0, covers-append (p + 1) xs ys h.1 (subst (λ q. Covers code q ys) e k))

  pub covers-iff : (p : ℕ) (xs ys : List ℕ) → Covers code p (xs ++ ys) ↔ (Covers code p xs × Covers code (p + length xs) ys)
  covers-iff p xs ys = (λ h. (covers-first p xs ys h, covers-second p xs ys h), λ k. covers-append p xs ys k.0 k.1)

  -- the word at an index
  pub covers_at : (p : ℕ) (ws : List ℕ) → Covers code p ws → (i : ℕ) → i < length ws → get_or code (p + i) 0 ≡ get_or ws i 0
  covers_at p [] h i l = absurd (not-suc-le-zero l)
  covers_at p (w ∷ ws) h zero l = let e : p + 0 ≡ p = omega arith in ap (λ q. get_or code q 0) e ∙ h.0
  covers_at p (w ∷ ws) h (suc i) l =
      let e : p + suc i ≡ p + 1 + i = omega arith in
      ap (λ q. get_or code q 0) e ∙ covers_at (p + 1) ws h.1 i (le_of_suc-le-suc l)

-- what a list begins with, and itself
covers-inside : (ys xs zs : List ℕ) → Covers (ys ++ (xs ++ zs)) (length ys) xs
covers-inside ys [] zs = tt
covers-inside ys (x ∷ xs) zs =
    let one : length (ys ++ (x ∷ [])) ≡ length ys + 1 = length-append ys (x ∷ []) in
    (get_or-append_seam ys x (xs ++ zs) 0, subst (λ (c : ℕ × List ℕ). Covers c.1 c.0 xs) (λ i. (one i, append_assoc ys (x ∷ []) (xs ++ zs) i)) (covers-inside (ys ++ (x ∷ [])) xs zs))

pub covers-front : (xs zs : List ℕ) → Covers (xs ++ zs) 0 xs
covers-front xs zs = covers-inside [] xs zs

pub covers_self : (xs : List ℕ) → Covers xs 0 xs
covers_self xs = subst (λ (ys : List ℕ). Covers ys 0 xs) (append-nil xs) (covers-front xs [])
