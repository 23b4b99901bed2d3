-- Reading a text has one result, apart from `Memory`.
use Rattle.std.proofs.Common.{◌≡◌, ℕ, zero, suc, true, false, List, [], ◌∷◌, ◌++◌, Some, None, codes, map, slice_get, refl, ap, subst, sym, ◌∙◌, inl, inr, Less, unwrap_or}
use Rattle.std.specs.Cmp.Lexicographic.{nat_list_cmp_total, slice_cmp}
use Rattle.std.specs.Ordering.{nat_cmp}
use Rattle.gs_linkset.specs.declared.link_types.Attr.{Attr}
use Rattle.gs_linkset.specs.declared.link_types.Context.{Context}
use Rattle.gs_linkset.proofs.WrittenLemmas.{sorted}
use Rattle.gs_linktext_grammar.specs.Grammar.{written_links, IsDocument}
use Rattle.gs_linktext_grammar.specs.declared.error.LinkTextFault.{LinkTextFault}
use Rattle.gs_linktext_grammar.specs.declared.error.LinkTextFault.TheVariants.{Syntax, Anchor, Rel, Memory}
use Rattle.gs_linktext_grammar.specs.declared.written_link.Param.{Param}
use Rattle.gs_linktext_grammar.specs.declared.written_link.WrittenLink.{WrittenLink}
use Rattle.gs_linktext_grammar.proofs.ChainLemmas.{one_lexing}
use Rattle.gs_linktext_grammar.proofs.LexLemmas.{not_some, some_is}
use Rattle.gs_linktext.specs.Contexts.{IsCut}
use Rattle.gs_linktext.specs.Links.{first_error, first_value, types_of, IsAttributes, IsLinksOf, IsLinksOfLink}
use Rattle.gs_linktext.specs.ReadAnswers.{HasFirstError, IsReadAs, IsReadError, IsSameOrMemory}
use Rattle.gs_linktext.proofs.OneCut.{one_cut}
use Rattle.gs_linktext.proofs.SpelledAttrs.{below_apart, below_at, sorted_attrs, AreSorted, IsBelowAll}
use Rattle.gs_linktext.proofs.SpelledLexemes.{Link}
use Rattle.gs_chars.proofs.TruthsAndLists.{same_bytes}

-- ---- the links of the grammar

pub one_document : (bytes : List ℕ) (xs ys : List WrittenLink) → IsDocument bytes xs → IsDocument bytes ys → xs ≡ ys
one_document bytes xs ys (p, lexed, is) (q, other, has) =
    let same = one_lexing p q bytes lexed other in
    some_is xs ys (sym is ∙ ap written_links same ∙ has)

-- ---- sorted attributes with the same members

not_below : (name : List ℕ) → slice_cmp nat_cmp name name ≡ Less → ⊥
not_below name h = let f : true ≡ false = sym (same_bytes name) ∙ below_apart name name h in cc

-- each of the attributes is one of the others
abbrev AreAmong : List Attr → List Attr → Type 0
AreAmong xs ys = (i : ℕ) (attr : Attr) → slice_get xs i ≡ Some attr → (j : ℕ) × (slice_get ys j ≡ Some attr)

same_first : (a b : Attr) (xs ys : List Attr) (j k : ℕ) → IsBelowAll a.name xs → IsBelowAll b.name ys → slice_get (b ∷ ys) j ≡ Some a
    → slice_get (a ∷ xs) k ≡ Some b → a ≡ b
same_first a b xs ys zero k low high at is = sym (some_is b a at)
same_first a b xs ys (suc j) zero low high at is = some_is a b is
same_first a b xs ys (suc j) (suc k) low high at is =
    absurd (not_below a.name (nat_list_cmp_total.trans a.name b.name a.name (below_at a.name xs k b low is) (below_at b.name ys j a high at)))

among_rest : (a : Attr) (xs ys : List Attr) → IsBelowAll a.name xs → AreAmong (a ∷ xs) (a ∷ ys) → AreAmong xs ys
among_rest a xs ys below all i attr at = let found = all (suc i) attr at in by found.0 found.1
  where
    by : (j : ℕ) → slice_get (a ∷ ys) j ≡ Some attr → (k : ℕ) × (slice_get ys k ≡ Some attr)
    by zero is =
        let same : a ≡ attr = some_is a attr is in
        absurd (not_below a.name (below_at a.name xs i a below (at ∙ ap (λ (x : Attr). Some x) (sym same))))
    by (suc j) is = (j, is)

same_sorted : (xs ys : List Attr) → AreSorted xs → AreSorted ys → AreAmong xs ys → AreAmong ys xs → xs ≡ ys
same_sorted [] [] s t f g = refl
same_sorted [] (b ∷ ys) s t f g = absurd (not_some b (g 0 b refl).1)
same_sorted (a ∷ xs) [] s t f g = absurd (not_some a (f 0 a refl).1)
same_sorted (a ∷ xs) (b ∷ ys) s t f g =
    let first = f 0 a refl in
    let second = g 0 b refl in
    by (same_first a b xs ys first.0 second.0 s.0 t.0 first.1 second.1) (λ p q. same_sorted xs ys s.1 t.1 p q)
  where
    by : a ≡ b → (AreAmong xs ys → AreAmong ys xs → xs ≡ ys) → a ∷ xs ≡ b ∷ ys
    by same rest =
        let one : AreAmong (a ∷ xs) (a ∷ ys) = subst (λ x. AreAmong (a ∷ xs) (x ∷ ys)) (sym same) f in
        let two : AreAmong (a ∷ ys) (a ∷ xs) = subst (λ x. AreAmong (x ∷ ys) (a ∷ xs)) (sym same) g in
        let high : IsBelowAll a.name ys = rw same t.0 in
        ap (λ (zs : List Attr). a ∷ zs) (rest (among_rest a xs ys s.0 one) (among_rest a ys xs high two)) ∙ ap (λ (x : Attr). x ∷ ys) same

among : (params : List Param) (xs ys : List Attr) → IsAttributes params xs → IsAttributes params ys → AreAmong xs ys
among params xs ys p q i attr at = q.every_name attr.name attr (p.each i attr at)

pub one_attributes : (params : List Param) (xs ys : List Attr) → IsAttributes params xs → IsAttributes params ys → xs ≡ ys
one_attributes params xs ys p q =
    same_sorted xs ys (sorted_attrs xs (sorted (map (λ attr. attr.name) xs) p.ascending))
    (sorted_attrs ys (sorted (map (λ attr. attr.name) ys) q.ascending)) (among params xs ys p q) (among params ys xs q p)

-- ---- the links of written links

one_link : (link : WrittenLink) (xs ys : List Link) → IsLinksOfLink link xs → IsLinksOfLink link ys → xs ≡ ys
one_link link xs ys p q =
    let same = one_attributes link.params p.attrs q.attrs p.attributes q.attributes in
    p.is ∙ ap (λ attrs. map (with_attrs attrs) (types_of link.params)) same ∙ sym q.is
  where
    with_attrs : List Attr → List ℕ → Link
    with_attrs attrs type = (unwrap_or (first_value (codes "anchor") link.params) [], type, record { href = link.href; attrs = attrs })

pub one_links : (written : List WrittenLink) (xs ys : List Link) → IsLinksOf written xs → IsLinksOf written ys → xs ≡ ys
one_links [] xs ys p q = p ∙ sym q
one_links (link ∷ written) xs ys (own, more, of_link, of_rest, is) (its, others, of_its, of_others, has) =
    is ∙ ap (λ (ls : List Link). ls ++ more) (one_link link own its of_link of_its) ∙ ap (λ (ls : List Link). its ++ ls)
    (one_links written more others of_rest of_others) ∙ sym has

-- ---- answers

pub same_contexts : (bytes : List ℕ) (c d : List Context) → IsReadAs bytes c → IsReadAs bytes d → c ≡ d
same_contexts bytes c d p q =
    let same = one_document bytes p.written q.written p.document q.document in
    let links = one_links q.written p.links q.links (rw (← same) p.given) q.given in
    one_cut q.links c d (subst (λ ls. IsCut ls c) links p.cut) q.cut

pub error_free : (bytes : List ℕ) (written : List WrittenLink) (error : LinkTextFault) → IsDocument bytes written
    → first_error 0 written ≡ None → IsReadError bytes error → error ≡ Memory
error_free bytes written Syntax document none h = absurd (h written document)
error_free bytes written (Anchor i) document none (found, other, is) =
    absurd (not_some (Anchor i) (sym none ∙ ap (first_error 0) (one_document bytes written found document other) ∙ is))
error_free bytes written (Rel i) document none (found, other, is) =
    absurd (not_some (Rel i) (sym none ∙ ap (first_error 0) (one_document bytes written found document other) ∙ is))
error_free bytes written Memory document none h = refl

first_is : (bytes : List ℕ) (f g : LinkTextFault) → HasFirstError bytes f → HasFirstError bytes g → f ≡ g
first_is bytes f g (written, document, is) (found, other, has) =
    some_is f g (sym is ∙ ap (first_error 0) (one_document bytes written found document other) ∙ has)

pub same_errors : (bytes : List ℕ) (f g : LinkTextFault) → IsReadError bytes f → IsReadError bytes g → IsSameOrMemory f g
same_errors bytes Memory g p q = inr (inl refl)
same_errors bytes Syntax Syntax p q = inl refl
same_errors bytes Syntax (Anchor i) p q = absurd (p q.0 q.1)
same_errors bytes Syntax (Rel i) p q = absurd (p q.0 q.1)
same_errors bytes Syntax Memory p q = inr (inr refl)
same_errors bytes (Anchor i) Syntax p q = absurd (q p.0 p.1)
same_errors bytes (Anchor i) (Anchor j) p q = inl (first_is bytes (Anchor i) (Anchor j) p q)
same_errors bytes (Anchor i) (Rel j) p q = inl (first_is bytes (Anchor i) (Rel j) p q)
same_errors bytes (Anchor i) Memory p q = inr (inr refl)
same_errors bytes (Rel i) Syntax p q = absurd (q p.0 p.1)
same_errors bytes (Rel i) (Anchor j) p q = inl (first_is bytes (Rel i) (Anchor j) p q)
same_errors bytes (Rel i) (Rel j) p q = inl (first_is bytes (Rel i) (Rel j) p q)
same_errors bytes (Rel i) Memory p q = inr (inr refl)
