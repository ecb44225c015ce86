-- No number stands twice in a list: said of all of them together, or of each as it is met, that it is not among those seen.
use Rattle.std.specs.Prelude.{ℕ, Bool, true, false, List, [], ◌∷◌, ◌++◌, ◌≢◌, ◌≡◌, refl, eqb}
use Rattle.std.proofs.lemmas.Bool.{false≢true, eqb-false}
use Rattle.std.proofs.Common.{sym, ne_eqb}
use Rattle.language.specs.Basics.{among}
use Rattle.laws.specs.Each.{Each, each_map, each-pair, each-swap, each_append, each_first, each-second}

abbrev pub Distinct : List ℕ → Type 0
Distinct [] = Unit {0}
Distinct (n ∷ ns) = Each (λ m. n ≢ m) ns × Distinct ns

-- each is new where it is read, after those seen
abbrev pub Fresh : List ℕ → List ℕ → Type 0
Fresh seen [] = Unit {0}
Fresh seen (n ∷ ns) = (among n seen ≡ false) × Fresh (n ∷ seen) ns

abbrev pub Apart : ℕ → List ℕ → Type 0
Apart n ns = Each (λ m. n ≢ m) ns

apart-swap : (xs ys : List ℕ) → Each (λ x. Apart x ys) xs → Each (λ y. Apart y xs) ys
apart-swap xs ys h =
    each_map (λ y. Each (λ x. x ≢ y) xs) (λ y. Apart y xs) ys (λ y k. each_map (λ x. x ≢ y) (λ x. y ≢ x) xs (λ x n e. n (sym e)) k)
    (each-swap (λ x y. x ≢ y) xs ys h)

pub among-apart : (n : ℕ) (xs : List ℕ) → among n xs ≡ false → Apart n xs
unfolding among
among-apart n [] e = tt
among-apart n (x ∷ xs) e = go (eqb n x) refl (among-apart n xs)
  where
    go : (b : Bool) → eqb n x ≡ b → (among n xs ≡ false → Apart n xs) → Apart n (x ∷ xs)
    go true t k = absurd (false≢true (sym (rw (t, among) at e)))
    go false t k = (eqb-false n x t, k (rw (t, among) at e))

pub apart-among : (n : ℕ) (xs : List ℕ) → Apart n xs → among n xs ≡ false
unfolding among
apart-among n [] h = refl
apart-among n (x ∷ xs) h = rw (ne_eqb n x h.0, among) (apart-among n xs h.1)

-- the names seen may come first, or be put before: the same is asked
fresh-apart : (seen ns : List ℕ) → Fresh seen ns → Each (λ n. Apart n seen) ns × Distinct ns
fresh-apart seen [] h = (tt, tt)
fresh-apart seen (n ∷ ns) h =
    let k = fresh-apart (n ∷ seen) ns h.1 in (
      (among-apart n seen h.0, each_map (λ m. (m ≢ n) × Apart m seen) (λ m. Apart m seen) ns (λ m q. q.1) k.0),
      (each_map (λ m. (m ≢ n) × Apart m seen) (λ m. n ≢ m) ns (λ m q e. q.0 (sym e)) k.0, k.1),
    )

apart-fresh : (seen ns : List ℕ) → Each (λ n. Apart n seen) ns → Distinct ns → Fresh seen ns
apart-fresh seen [] h d = tt
apart-fresh seen (n ∷ ns) h d = (
  apart-among n seen h.0,
  apart-fresh (n ∷ seen) ns (each-pair (λ m. m ≢ n) (λ m. Apart m seen) ns (each_map (λ m. n ≢ m) (λ m. m ≢ n) ns (λ m k e. k (sym e)) d.0) h.1) d.1,
)

pub distinct_append : (xs ys : List ℕ) → Distinct xs → Distinct ys → Each (λ x. Apart x ys) xs → Distinct (xs ++ ys)
distinct_append [] ys d e h = e
distinct_append (x ∷ xs) ys d e h = (each_append (λ m. x ≢ m) xs ys d.0 h.0, distinct_append xs ys d.1 e h.1)

pub distinct-first : (xs ys : List ℕ) → Distinct (xs ++ ys) → Distinct xs
distinct-first [] ys d = tt
distinct-first (x ∷ xs) ys d = (each_first (λ m. x ≢ m) xs ys d.0, distinct-first xs ys d.1)

pub distinct-second : (xs ys : List ℕ) → Distinct (xs ++ ys) → Distinct ys
distinct-second [] ys d = d
distinct-second (x ∷ xs) ys d = distinct-second xs ys d.1

pub distinct_apart : (xs ys : List ℕ) → Distinct (xs ++ ys) → Each (λ x. Apart x ys) xs
distinct_apart [] ys d = tt
distinct_apart (x ∷ xs) ys d = (each-second (λ m. x ≢ m) xs ys d.0, distinct_apart xs ys d.1)

pub fresh-distinct : (seen ns : List ℕ) → Distinct seen → Fresh seen ns → Distinct (seen ++ ns)
fresh-distinct seen ns d f = let k = fresh-apart seen ns f in distinct_append seen ns d k.1 (apart-swap ns seen k.0)

pub distinct-fresh : (seen ns : List ℕ) → Distinct (seen ++ ns) → Fresh seen ns
distinct-fresh seen ns d = apart-fresh seen ns (apart-swap seen ns (distinct_apart seen ns d)) (distinct-second seen ns d)
