-- A line that is read is the line as it is written.
use Rattle.std.proofs.Common.{◌≡◌, ℕ, eqb, List, [], ◌∷◌, ◌++◌, drop, Some, None, Ok, ap, ◌∙◌}
use Rattle.std.proofs.lemmas.List.{append-nil}
use Rattle.lines.specs.Lines.{LineValue, values, line_of, item, number_line, number_at, optional_at}
use Rattle.written.specs.Written.{number6, field6, bit6}
use Rattle.textparts.proofs.Digits.{held, inverted, number_then, optional_then, bit_then, name_then, ended_then}

-- what follows the letter k is what `body` writes
abbrev pub Reads : ℕ → (LineValue → List ℕ) → Type 0
Reads k body = (l : List ℕ) (v : LineValue) → line_of (k ∷ l) ≡ Ok v → l ≡ body v

-- one part in front of another
front : (xs rest more : List ℕ) {ys : List ℕ} → ys ≡ xs ++ rest → rest ≡ more → ys ≡ xs ++ more
front xs rest more e r = e ∙ ap (λ x. xs ++ x) r

end : (xs rest : List ℕ) {ys : List ℕ} → ys ≡ xs ++ rest → rest ≡ [] → ys ≡ xs
end xs rest e r = e ∙ ap (λ x. xs ++ x) r ∙ append-nil xs

abbrev pub table_body : LineValue → List ℕ
table_body v = number6 (number_at v 0) ++ (number6 (number_at v 1) ++ (number6 (number_at v 2) ++ (field6 (optional_at v 3) ++ bit6 (eqb (number_at v 4) 1))))

abbrev pub module_body : LineValue → List ℕ
module_body v = number6 (number_at v 0) ++ (field6 (optional_at v 1) ++ (field6 (optional_at v 2) ++ number6 (number_at v 3)))

abbrev pub number_body : LineValue → List ℕ
number_body v = number6 (number_at v 0)

abbrev pub export_body : LineValue → List ℕ
export_body v = number6 (number_at v 0) ++ (bit6 (eqb (number_at v 1) 1) ++ 32 ∷ v.name)

abbrev pub partial_body : LineValue → List ℕ
partial_body v = 32 ∷ v.name

abbrev pub entry_body : LineValue → List ℕ
entry_body v = number6 (number_at v 0) ++ number6 (number_at v 1)

abbrev pub site_body : LineValue → List ℕ
site_body v = number6 (number_at v 0) ++ (field6 (optional_at v 1) ++ number6 (number_at v 2))

abbrev pub symbol_body : LineValue → List ℕ
symbol_body v = number6 (number_at v 0) ++ (number6 (number_at v 1) ++ (field6 (optional_at v 2) ++ number6 (number_at v 3)))

pub table_back : Reads 84 table_body
table_back l v h =
    number_then l 0 _ v h (λ a e0 h. number_then l 6 _ v h (λ b e1 h. number_then l 12 _ v h (λ c e2 h. optional_then l 18 _ v h (λ d e3 h.
    bit_then l 24 _ v h (λ e e4 h. ended_then l 30 _ v h (λ e5 h.
    front (number6 a) (drop 6 l) _ e0 (front (number6 b) (drop 12 l) _ e1 (front (number6 c) (drop 18 l) _ e2 (front (field6 d) (drop 24 l) _ e3
    (end (bit6 (eqb e 1)) (drop 30 l) e4 e5)))) ∙ ap table_body (held _ v h)))))))

pub module_back : Reads 77 module_body
module_back l v h =
    number_then l 0 _ v h (λ a e0 h. optional_then l 6 _ v h (λ b e1 h. optional_then l 12 _ v h (λ c e2 h. number_then l 18 _ v h (λ d e3 h.
    ended_then l 24 _ v h (λ e4 h.
    front (number6 a) (drop 6 l) _ e0 (front (field6 b) (drop 12 l) _ e1 (front (field6 c) (drop 18 l) _ e2 (end (number6 d) (drop 24 l) e3 e4)))
    ∙ ap module_body (held _ v h))))))

pub entry_back : Reads 69 entry_body
entry_back l v h =
    number_then l 0 _ v h (λ a e0 h. number_then l 6 _ v h (λ b e1 h. ended_then l 12 _ v h (λ e2 h.
    front (number6 a) (drop 6 l) _ e0 (end (number6 b) (drop 12 l) e1 e2) ∙ ap entry_body (held _ v h))))

pub site_back : Reads 73 site_body
site_back l v h =
    number_then l 0 _ v h (λ a e0 h. optional_then l 6 _ v h (λ b e1 h. number_then l 12 _ v h (λ c e2 h. ended_then l 18 _ v h (λ e3 h.
    front (number6 a) (drop 6 l) _ e0 (front (field6 b) (drop 12 l) _ e1 (end (number6 c) (drop 18 l) e2 e3)) ∙ ap site_body (held _ v h)))))

pub symbol_back : Reads 83 symbol_body
symbol_back l v h =
    number_then l 0 _ v h (λ a e0 h. number_then l 6 _ v h (λ b e1 h. optional_then l 12 _ v h (λ c e2 h. number_then l 18 _ v h (λ d e3 h.
    ended_then l 24 _ v h (λ e4 h.
    front (number6 a) (drop 6 l) _ e0 (front (number6 b) (drop 12 l) _ e1 (front (field6 c) (drop 18 l) _ e2 (end (number6 d) (drop 24 l) e3 e4)))
    ∙ ap symbol_body (held _ v h))))))

pub export_back : Reads 88 export_body
export_back l v h =
    number_then l 0 _ v h (λ a e0 h. bit_then l 6 _ v h (λ b e1 h. name_then l 12 _ v h (λ n e2 h.
    front (number6 a) (drop 6 l) _ e0 (front (bit6 (eqb b 1)) (drop 12 l) _ e1 e2) ∙ ap export_body (held _ v h))))

pub partial_back : Reads 80 partial_body
partial_back l v h = name_then l 0 _ v h (λ n e0 h. e0 ∙ ap partial_body (held _ v h))

pub number_line_back : (k : ℕ) (l : List ℕ) (v : LineValue) → number_line k l ≡ Ok v → l ≡ number_body v
number_line_back k l v h =
    let i = inverted (item l) (λ d. Ok (values k (Some d ∷ None ∷ None ∷ None ∷ None ∷ []) [])) v h in
    number_then l 0 _ i.0 i.1 (λ a e0 g. ended_then l 6 _ i.0 g (λ e1 g.
    end (number6 a) (drop 6 l) e0 e1 ∙ ap number6 (held a i.0 g) ∙ ap number_body (held (values k (Some i.0 ∷ None ∷ None ∷ None ∷ None ∷ []) []) v i.2)))
