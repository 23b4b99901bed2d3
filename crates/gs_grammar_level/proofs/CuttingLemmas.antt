-- The cuttings of options: start places of items, and items whose words have one length.
use Rattle.std.proofs.Common.{◌≡◌, ℕ, ◌+◌, All, List, [], ◌∷◌, ◌++◌, length, Some, sym, ◌∙◌, ap, subst, arith}
use Rattle.std.specs.List.{slice_get}
use Rattle.std.proofs.lemmas.List.{append_assoc, append-nil}
use Rattle.std.proofs.lemmas.List.Elements.{All-head, All-tail}
use Rattle.gs_chars.proofs.TruthsAndLists.{same_at}
use Rattle.gs_grammar.specs.declared.item.Item.{Item}
use Rattle.gs_grammar.specs.Items.{IsItem, size_of}
use Rattle.gs_grammar.specs.Derivations.{Derives}
use Rattle.gs_grammar.specs.Levels.{OptionForm, item_lists}
use Rattle.gs_grammar.proofs.Cuts.{derives_uncons, derives_nil}
use Rattle.gs_grammar.proofs.WordLaws.{word_length}
use Rattle.gs_grammar_level.specs.declared.cuttings.Cutting.{Cutting}
use Rattle.gs_grammar_level.specs.declared.cuttings.Cutting.TheVariants.{Widths}
use Rattle.gs_grammar_level.specs.Cuttings.{starts_of, AreWidthsOf, IsCuttingOf, AreCuttingsOf}
use Rattle.gs_grammar_level.specs.Fronts.{CutsAreFixed, ReadAlone}
use Rattle.gs_grammar_level.specs.ShareSearches.{ShareNoList}
use Rattle.gs_grammar_level.proofs.FrontLemmas.{option_by}
use Rattle.gs_grammar_compile.proofs.JoinLemmas.{same_front}

-- the start places of the items, one item more

pub starts_step : (starts new all : List ℕ) (place next : ℕ) (item : Item) (others left : List Item) → left ≡ item ∷ others
    → starts ++ starts_of place left ≡ all → new ≡ starts ++ place ∷ [] → next ≡ place + size_of item → new ++ starts_of next others ≡ all
starts_step starts new all place next item others left e h n p =
    let here : starts ++ starts_of place (item ∷ others) ≡ all = rw e at h in
    ap (λ (xs : List ℕ). xs ++ starts_of next others) n
    ∙ append_assoc starts (place ∷ []) (starts_of next others)
    ∙ ap (λ (k : ℕ). starts ++ place ∷ starts_of k others) p
    ∙ here

pub starts_end : (starts list all : List ℕ) (place : ℕ) (left : List Item) → length left ≡ 0 → starts ++ starts_of place left ≡ all → list ≡ starts → list ≡ all
starts_end starts list all place [] l h e = e ∙ sym (append-nil starts) ∙ h
starts_end starts list all place (item ∷ left) l h e = absurd (omega arith)

-- the words of items before the last have one length

pub record FixedFrom (left items : List Item) : Type 0 where
  pub all : CutsAreFixed left → CutsAreFixed items

-- one derivation

same_words : (items : List Item) → All IsItem items → CutsAreFixed items → (w : List ℕ) (values words values' words' : List (List ℕ))
    → Derives items w values words → Derives items w values' words' → words ≡ words'
same_words [] i c w values words values' words' d e = (derives_nil w values words d).2 ∙ sym (derives_nil w values' words' e).2
same_words (item ∷ []) i c w values words values' words' d e =
    let f = derives_uncons item [] w values words d in
    let g = derives_uncons item [] w values' words' e in
    let fn = derives_nil f.rest f.values' f.words' f.derives in
    let gn = derives_nil g.rest g.values' g.words' g.derives in
    let alone : w ≡ f.first = f.whole ∙ ap (λ (x : List ℕ). f.first ++ x) fn.0 ∙ append-nil f.first in
    let other : w ≡ g.first = g.whole ∙ ap (λ (x : List ℕ). g.first ++ x) gn.0 ∙ append-nil g.first in
    let first : f.first ≡ g.first = sym alone ∙ other in
    let rest : f.words' ≡ g.words' = fn.2 ∙ sym gn.2 in
    let a = f.words_are in
    let b = g.words_are in
    cc
same_words (item ∷ next ∷ others) i c w values words values' words' d e =
    let f = derives_uncons item (next ∷ others) w values words d in
    let g = derives_uncons item (next ∷ others) w values' words' e in
    let ii : IsItem item = All-head IsItem item (next ∷ others) i in
    let fl = word_length item f.value f.first ii f.word in
    let gl = word_length item g.value g.first ii g.word in
    let fa = fl.0 in
    let fb = fl.1 in
    let ga = gl.0 in
    let gb = gl.1 in
    let one = c.0 in
    let parts = same_front f.first g.first f.rest g.rest (sym f.whole ∙ g.whole) (omega arith) in
    let first = parts.0 in
    let moved : Derives (next ∷ others) f.rest g.values' g.words' = rw parts.1 g.derives in
    let rest = same_words (next ∷ others) (All-tail IsItem item (next ∷ others) i) c.1 f.rest f.values' f.words' g.values' g.words' f.derives moved in
    let a = f.words_are in
    let b = g.words_are in
    cc

pub read_alone : (items : List Item) → All IsItem items → CutsAreFixed items → ReadAlone items
read_alone items i c = record { only = λ w values words values' words' d e. same_words items i c w values words values' words' d e }

-- an option that is cut by widths shares no list with itself
pub none_by_cuts : (cuttings : List Cutting) (options : List OptionForm) (i j : ℕ) (one : Cutting) (places : List ℕ)
    → AreCuttingsOf cuttings options → slice_get cuttings i ≡ Some one → one ≡ Widths places → i ≡ j → ShareNoList (item_lists options) i j
none_by_cuts cuttings options i j one places h at is e w s =
    let a = option_by options w i s.one s.by_one in
    let b = option_by options w j s.other s.by_other in
    let same : a.option ≡ b.option = same_at options i j a.option b.option a.at b.at e in
    let other : Derives a.option.items w s.other.values s.other.words = subst (λ (o : OptionForm). Derives o.items w s.other.values s.other.words) (sym same) b.derives in
    let widths : AreWidthsOf places a.option = subst (λ (c : Cutting). IsCuttingOf c a.option) is (h.each i one a.option at a.at) in
    s.differ (record { option = s.by_one ∙ e ∙ sym s.by_other; words = widths.alone.only w s.one.values s.one.words s.other.values s.other.words a.derives other })
