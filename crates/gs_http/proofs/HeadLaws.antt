-- A head says one thing, so it has one reply.
use Rattle.std.proofs.Common.{◌≡◌, ℕ, ◌≤◌, false, List, [], ◌∷◌, length, Option, Some, None, refl, sym, ap, ◌∙◌, subst, arith, inl, inr}
use Rattle.std.proofs.lemmas.Bool.{cases_lt, false≢true}
use Rattle.gs_chars.proofs.TruthsAndLists.{true_or_false}
use Rattle.httparse.specs.Grammar.{ReadsRequest, RequestHead}
use Rattle.httparse.proofs.GrammarLemmas.{request_from_pieces, request_head, request_pieces, request_tree, request_unique}
use Rattle.gs_http.specs.Heads.{Asked, IsAsked, asked_of, is_rejected}
use Rattle.gs_http.proofs.Decisions.{head_decided}

pub one_asked : (head : List ℕ) (a b : Option Asked) → IsAsked head a → IsAsked head b → a ≡ b
one_asked head (Some a) (Some b) x y =
    let same = (request_unique head x.h y.h [] [] x.whole.reads y.whole.reads).0 in
    ap Some (x.says ∙ ap asked_of same ∙ sym y.says)
one_asked head (Some a) None x y = absurd (y a x)
one_asked head None (Some b) x y = absurd (x b y)
one_asked head None None x y = refl

-- a head of the grammar says one thing, or is not answered
asked_by_head : (head : List ℕ) (h : RequestHead) → ReadsRequest head h [] → (asked : Option Asked) × IsAsked head asked
asked_by_head head h reads = elim (cases_lt 64 (length h.fields)) [
  | inl many ↦ (
    None,
    λ asked is.
        let same = (request_unique head is.h h [] [] is.whole.reads reads).0 in
        let few : length h.fields ≤ 64 = subst (λ (g : RequestHead). length g.fields ≤ 64) same is.whole.few in
        omega arith,
  )
  | inr few ↦ elim (true_or_false (is_rejected head (asked_of h).fields)) [
    | inr taken ↦ (Some (asked_of h), record { h = h; whole = record { reads = reads; few = few }; says = refl; taken = taken })
    | inl rejected ↦ (
      None,
      λ asked is.
          let same = (request_unique head is.h h [] [] is.whole.reads reads).0 in
          let says : asked ≡ asked_of h = is.says ∙ ap asked_of same in
          let taken : is_rejected head (asked_of h).fields ≡ false = subst (λ (a : Asked). is_rejected head a.fields ≡ false) says is.taken in
          false≢true (sym taken ∙ rejected),
    )
  ]
]

-- bytes after a head make it no head
asked_by_front : (head : List ℕ) (h : RequestHead) (rest : List ℕ) → ReadsRequest head h rest → (asked : Option Asked) × IsAsked head asked
asked_by_front head h [] reads = asked_by_head head h reads
asked_by_front head h (b ∷ rest) reads = (
  None,
  λ asked is.
      let same : ◌≡◌ {A = List ℕ} [] (b ∷ rest) = (request_unique head is.h h [] (b ∷ rest) is.whole.reads reads).1 in cc,
)

pub some_asked : (head : List ℕ) → (asked : Option Asked) × IsAsked head asked
some_asked head = elim (head_decided head) [
  | inl found ↦ asked_by_front head (request_head found.0) found.1 (request_from_pieces head found.0 found.1 found.2)
  | inr none ↦ (None, λ asked is. none (request_tree is.h, [], request_pieces head is.h [] is.whole.reads))
]
