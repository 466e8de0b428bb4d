-- A text that is opened is the text of its table.
use Rattle.std.proofs.Common.{◌≡◌, ℕ, Bool, true, false, cond, eqb, List, [], ◌∷◌, ◌++◌, map, length, Ok, Result, sym, refl, ap, ◌∙◌, subst, arith}
use Rattle.std.proofs.lemmas.List.{append_assoc, append-nil, length-map}
use Rattle.std.proofs.lemmas.Bool.{eqb-true}
use Rattle.std.specs.List.{flat_map}
use Rattle.lines.specs.Field.{bind}
use Rattle.lines.specs.Lines.{LineValue, line_of, number_at, optional_at}
use Rattle.texts.specs.Form.{LineAt, grow, lines_of, finished, At, at, reading, one, many, times, ModuleLines, EntryLines, TextLines, module_lines, entry_lines, ending, parsed}
use Rattle.textparts.specs.Said.{number_of, export_of, name_of, site_of, symbol_of, module_of, entry_of, table_of}
use Rattle.written.specs.Written.{number6, field6, bit6, line}
use Rattle.textparts.specs.Written.{number_lines, export_text, partial_text, module_text, site_text, entry_text, symbol_text, written, OnlyText}
use Rattle.textparts.proofs.Digits.{held, inverted}
use Rattle.textparts.proofs.Bodies.{table_body, module_body, number_body, export_body, partial_body, entry_body, site_body, symbol_body, table_back, module_back, number_line_back, export_back, partial_back, entry_back, site_back, symbol_back}
use Rattle.textparts.proofs.Spent.{Spent, spent_both, spent_as, one_back, many_back, times_back}

-- the text of lines
abbrev unlines : List (List ℕ) → List ℕ
unlines = flat_map (λ l. l ++ 10 ∷ [])

unlines_lines : (t : List ℕ) → finished t ≡ true → unlines (lines_of t) ≡ t
unlines_lines [] w = refl
unlines_lines (b ∷ []) w = ap (λ v. unlines (cond v ([] ∷ []) [])) w ∙ ap (λ x. x ∷ []) (sym (eqb-true b 10 w))
unlines_lines (b ∷ c ∷ bs) w = way (eqb b 10) refl (lines_of (c ∷ bs)) (unlines_lines (c ∷ bs) w)
  where
    way : (v : Bool) → eqb b 10 ≡ v → (ls : List (List ℕ)) → unlines ls ≡ c ∷ bs → unlines (cond v ([] ∷ ls) (grow b ls)) ≡ b ∷ c ∷ bs
    way true e ls h = ap (λ x. 10 ∷ x) h ∙ ap (λ x. x ∷ c ∷ bs) (sym (eqb-true b 10 e))
    way false e [] h = absurd (let z : ◌≡◌ {A = ℕ} 0 1 = cc in omega arith)
    way false e (l ∷ ls) h = ap (λ x. b ∷ x) h

unlines_append : (xs ys : List (List ℕ)) → unlines (xs ++ ys) ≡ unlines xs ++ unlines ys
unlines_append [] ys = refl
unlines_append (x ∷ xs) ys = ap (λ l. (x ++ 10 ∷ []) ++ l) (unlines_append xs ys) ∙ sym (append_assoc (x ++ 10 ∷ []) (unlines xs) (unlines ys))

both : (a b c d : List ℕ) → a ≡ b → c ≡ d → a ++ c ≡ b ++ d
both a b c d e f = ap (λ x. x ++ c) e ∙ ap (λ x. b ++ x) f

-- a text by its lines
record Lined (a : List ℕ) (xs : List (List ℕ)) : Type 0 where
  pub is : a ≡ unlines xs

-- two parts, and the lines of each
parts : {a c : List ℕ} {xs ys : List (List ℕ)} → Lined a xs → Lined c ys → Lined (a ++ c) (xs ++ ys)
parts {a} {c} {xs} {ys} e f = record { is = both a (unlines xs) c (unlines ys) e.is f.is ∙ sym (unlines_append xs ys) }

-- one line
single : (k : ℕ) (body : List ℕ) → Lined (line k body) ((k ∷ body) ∷ [])
single k body = record { is = sym (append-nil (line k body)) }

rows : {A : Type 0} (g : A → List ℕ) (h : LineAt → A) (t : LineAt → List ℕ) → ((v : LineAt) → g (h v) ≡ t v ++ 10 ∷ []) → (vs : List LineAt) →
    Lined (flat_map g (map h vs)) (map t vs)
rows g h t e [] = record { is = refl }
rows g h t e (v ∷ vs) = record { is = both (g (h v)) (t v ++ 10 ∷ []) (flat_map g (map h vs)) (unlines (map t vs)) (e v) (rows g h t e vs).is }

blocks : {A B : Type 0} (g : B → List ℕ) (h : A → B) (t : A → List (List ℕ)) → ((a : A) → Lined (g (h a)) (t a)) → (xs : List A) →
    Lined (flat_map g (map h xs)) (flat_map t xs)
blocks g h t e [] = record { is = refl }
blocks g h t e (x ∷ xs) = parts (e x) (blocks g h t e xs)

-- the lines as they are written
abbrev numbers : ℕ → List LineAt → List (List ℕ)
numbers k = map (λ v. k ∷ number_body v.value)

abbrev module_texts : ModuleLines → List (List ℕ)
module_texts m =
    (77 ∷ module_body m.head.value) ∷ (numbers 76 m.loads ++ (numbers 68 m.dependencies ++ (numbers 82 m.resolved ++ (numbers 85 m.references
    ++ (map (λ v. 88 ∷ export_body v.value) m.exports ++ map (λ v. 80 ∷ partial_body v.value) m.partial)))))

abbrev entry_texts : EntryLines → List (List ℕ)
entry_texts e = (69 ∷ entry_body e.head.value) ∷ map (λ v. 73 ∷ site_body v.value) e.sites

abbrev symbol_texts : LineAt → List (List ℕ)
symbol_texts v = (83 ∷ symbol_body v.value) ∷ []

abbrev text_texts : TextLines → List (List ℕ)
text_texts t = (84 ∷ table_body t.head.value) ∷ (flat_map module_texts t.modules ++ (flat_map entry_texts t.entries ++ flat_map symbol_texts t.symbols))

onward : {A B E P : Type 0} (x : Result A E) (f : A → Result B E) (v : B) → bind x f ≡ Ok v → ((a : A) → x ≡ Ok a → f a ≡ Ok v → P) → P
onward x f v h go = let i = inverted x f v h in go i.0 i.1 i.2

many_numbers : (k : ℕ) → ((l : List ℕ) (v : LineValue) → line_of (k ∷ l) ≡ Ok v → l ≡ number_body v) → (p q : At) (vs : List LineAt) →
    many k p ≡ Ok (vs, q) → Spent p q (numbers k vs)
many_numbers k reads p q vs e = many_back k number_body reads p q vs e

module_spent : (p q : At) (m : ModuleLines) → module_lines p ≡ Ok (m, q) → Spent p q (module_texts m)
module_spent p q m e =
    onward (one 77 p) _ (m, q) e (λ h eh e. onward (many 76 h.1) _ (m, q) e (λ l el e. onward (many 68 l.1) _ (m, q) e (λ d ed e.
    onward (many 82 d.1) _ (m, q) e (λ r er e. onward (many 85 r.1) _ (m, q) e (λ u eu e. onward (many 88 u.1) _ (m, q) e (λ x ex e.
    onward (many 80 x.1) _ (m, q) e (λ z ez e.
    spent_as p q module_texts m _
    (spent_both p h.1 z.1 _ _ (one_back 77 module_body module_back p h.1 h.0 eh)
    (spent_both h.1 l.1 z.1 _ _ (many_numbers 76 (number_line_back 76) h.1 l.1 l.0 el)
    (spent_both l.1 d.1 z.1 _ _ (many_numbers 68 (number_line_back 68) l.1 d.1 d.0 ed)
    (spent_both d.1 r.1 z.1 _ _ (many_numbers 82 (number_line_back 82) d.1 r.1 r.0 er)
    (spent_both r.1 u.1 z.1 _ _ (many_numbers 85 (number_line_back 85) r.1 u.1 u.0 eu)
    (spent_both u.1 x.1 z.1 _ _ (many_back 88 export_body export_back u.1 x.1 x.0 ex)
    (many_back 80 partial_body partial_back x.1 z.1 z.0 ez)))))))
    (held (record { head = h.0; loads = l.0; dependencies = d.0; resolved = r.0; references = u.0; exports = x.0; partial = z.0 }, z.1) (m, q) e))))))))

entry_spent : (p q : At) (m : EntryLines) → entry_lines p ≡ Ok (m, q) → Spent p q (entry_texts m)
entry_spent p q m e =
    onward (one 69 p) _ (m, q) e (λ h eh e. onward (many 73 h.1) _ (m, q) e (λ i ei e.
    spent_as p q entry_texts m _
    (spent_both p h.1 i.1 _ _ (one_back 69 entry_body entry_back p h.1 h.0 eh) (many_back 73 site_body site_back h.1 i.1 i.0 ei))
    (held (record { head = h.0; sites = i.0 }, i.1) (m, q) e)))

symbol_spent : (p q : At) (v : LineAt) → one 83 p ≡ Ok (v, q) → Spent p q (symbol_texts v)
symbol_spent p q v e = one_back 83 symbol_body symbol_back p q v e

ending_back : {A : Type 0} (a t : A) (n : ℕ) (ls : List (List ℕ)) (w : Bool) → ending a (at n ls w) ≡ Ok t → (ls ≡ []) × (w ≡ true) × (a ≡ t)
ending_back a t n [] true e = (refl, refl, held a t e)
ending_back a t n [] false e = absurd (let z : ◌≡◌ {A = ℕ} 0 1 = cc in omega arith)
ending_back a t n (l ∷ ls) w e = absurd (let z : ◌≡◌ {A = ℕ} 0 1 = cc in omega arith)

-- what a text that keeps the form comes to
pub record Kept (text : List ℕ) (t : TextLines) : Type 0 where
  pub lines : lines_of text ≡ text_texts t
  pub whole : finished text ≡ true
  pub modules : length t.modules ≡ number_at t.head.value 0
  pub entries : length t.entries ≡ number_at t.head.value 1
  pub symbols : length t.symbols ≡ number_at t.head.value 2

abbrev tree : LineAt → List ModuleLines → List EntryLines → List LineAt → TextLines
tree h m e s = record { head = h; modules = m; entries = e; symbols = s }

kept_from : (text : List ℕ) (q : At) (t u : TextLines) → Spent (reading 1 text) q (text_texts t) → (q.left ≡ []) × (q.whole ≡ true) × (t ≡ u) →
    length t.modules ≡ number_at t.head.value 0 → length t.entries ≡ number_at t.head.value 1 → length t.symbols ≡ number_at t.head.value 2 → Kept text u
kept_from text q t u s e m n k =
    subst (λ x. Kept text x) e.2 (record {
      lines = s.lines ∙ ap (λ l. text_texts t ++ l) e.0 ∙ append-nil (text_texts t);
      whole = sym s.whole ∙ e.1;
      modules = m;
      entries = n;
      symbols = k;
    })

parsed_back : (text : List ℕ) (u : TextLines) → parsed text ≡ Ok u → Kept text u
parsed_back text u e =
    onward (one 84 (reading 1 text)) _ u e (λ h eh e. onward (times module_lines (number_at h.0.value 0) h.1) _ u e (λ m em e.
    onward (times entry_lines (number_at h.0.value 1) m.1) _ u e (λ n en e. onward (times (one 83) (number_at h.0.value 2) n.1) _ u e (λ s es e.
    let a = times_back module_lines module_texts module_spent (number_at h.0.value 0) h.1 m.1 m.0 em in
    let b = times_back entry_lines entry_texts entry_spent (number_at h.0.value 1) m.1 n.1 n.0 en in
    let c = times_back (one 83) symbol_texts symbol_spent (number_at h.0.value 2) n.1 s.1 s.0 es in
    kept_from text s.1 (tree h.0 m.0 n.0 s.0) u
    (spent_both (reading 1 text) h.1 s.1 _ _ (one_back 84 table_body table_back (reading 1 text) h.1 h.0 eh)
    (spent_both h.1 m.1 s.1 _ _ a.0 (spent_both m.1 n.1 s.1 _ _ b.0 c.0)))
    (ending_back (tree h.0 m.0 n.0 s.0) u s.1.line s.1.left s.1.whole e) a.1 b.1 c.1))))

number_rows : (k : ℕ) (vs : List LineAt) → Lined (number_lines k (map number_of vs)) (numbers k vs)
number_rows k vs = rows (λ n. line k (number6 n)) number_of (λ v. k ∷ number_body v.value) (λ v. refl) vs

module_text_lem : (m : ModuleLines) → Lined (module_text (module_of m)) (module_texts m)
module_text_lem m =
    parts (single 77 (module_body m.head.value)) (parts (number_rows 76 m.loads) (parts (number_rows 68 m.dependencies) (parts (number_rows 82 m.resolved)
    (parts (number_rows 85 m.references) (parts (rows export_text export_of (λ v. 88 ∷ export_body v.value) (λ v. refl) m.exports)
    (rows partial_text name_of (λ v. 80 ∷ partial_body v.value) (λ v. refl) m.partial))))))

entry_text_lem : (e : EntryLines) → Lined (entry_text (entry_of e)) (entry_texts e)
entry_text_lem e = parts (single 69 (entry_body e.head.value)) (rows site_text site_of (λ v. 73 ∷ site_body v.value) (λ v. refl) e.sites)

symbol_text_lem : (v : LineAt) → Lined (symbol_text (symbol_of v)) (symbol_texts v)
symbol_text_lem v = single 83 (symbol_body v.value)

-- the head line, by the counts that it says
abbrev head_line : LineValue → ℕ → ℕ → ℕ → List ℕ
head_line h m e s = line 84 (number6 m ++ (number6 e ++ (number6 s ++ (field6 (optional_at h 3) ++ bit6 (eqb (number_at h 4) 1)))))

head_counts : (t : TextLines) → length t.modules ≡ number_at t.head.value 0 → length t.entries ≡ number_at t.head.value 1 → length t.symbols ≡ number_at t.head.value 2 →
    Lined (head_line t.head.value (length (map module_of t.modules)) (length (map entry_of t.entries)) (length (map symbol_of t.symbols))) ((84 ∷ table_body t.head.value) ∷ [])
head_counts t m e s = record {
  is =
      ap (λ n. head_line t.head.value n (length (map entry_of t.entries)) (length (map symbol_of t.symbols))) (length-map t.modules module_of ∙ m)
      ∙ ap (λ n. head_line t.head.value (number_at t.head.value 0) n (length (map symbol_of t.symbols))) (length-map t.entries entry_of ∙ e)
      ∙ ap (λ n. head_line t.head.value (number_at t.head.value 0) (number_at t.head.value 1) n) (length-map t.symbols symbol_of ∙ s)
      ∙ (single 84 (table_body t.head.value)).is;
}

written_lined : (text : List ℕ) (t : TextLines) → Kept text t → Lined (written (table_of t)) (text_texts t)
written_lined text t k =
    parts (head_counts t k.modules k.entries k.symbols) (parts (blocks module_text module_of module_texts module_text_lem t.modules)
    (parts (blocks entry_text entry_of entry_texts entry_text_lem t.entries) (blocks symbol_text symbol_of symbol_texts symbol_text_lem t.symbols)))

written_back : (text : List ℕ) (t : TextLines) → Kept text t → written (table_of t) ≡ text
written_back text t k = (written_lined text t k).is ∙ ap unlines (sym k.lines) ∙ unlines_lines text k.whole

pub only_text : OnlyText
only_text text t e =
    onward (parsed text) _ t e (λ u eu e. ap written (sym (held (table_of u) t e)) ∙ written_back text u (parsed_back text u eu))
