-- The result for a path with its query, by the places at which it is cut. For a link it goes by the place after the authority.
use Rattle.std.proofs.Common.{◌≡◌, ℕ, ◌+◌, ◌≤◌, true, false, List, ◌++◌, length, take, drop, Option, Some, None, All, refl, sym, ap, ◌∙◌, inl, inr}
use Rattle.std.specs.Prelude.{Result, Ok, Err}
use Rattle.std.specs.List.{position_or_len}
use Rattle.std.proofs.lemmas.List.{length-take-le}
use Rattle.gs_chars.proofs.TruthsAndLists.{true_or_false}
use Rattle.gs_ai.specs.declared.pair.Pair.{Pair}
use Rattle.gs_ai.specs.declared.row.AiRow.{AiRow}
use Rattle.gs_ident.specs.Identities.{IsInOrder}
use Rattle.gs_dlink.specs.declared.error.LinkFault.{LinkFault}
use Rattle.gs_dlink.specs.declared.error.LinkFault.TheVariants.{NotHttp, NoKeyPath, Memory}
use Rattle.gs_dlink.specs.Answers.{by_key_path, is_rooted, link_answer, target_answer, written_answer}
use Rattle.gs_dlink.specs.Paths.{key_path}
use Rattle.gs_chars.specs.Characters.{is_byte}
use Rattle.gs_dlink.specs.Uris.{authority_end, path_of, query_of, query_pairs, segments, Written}
use Rattle.gs_dlink.proofs.JudgementLemmas.{written_in_order}
use Rattle.gs_chars.specs.Answers.{OrError}

module _ (table : List AiRow) (at : ℕ) (text : List ℕ) (hash end : ℕ) (h : hash ≡ position_or_len (is_byte 35) text)
    (e : end ≡ position_or_len (is_byte 63) (take hash text)) where
  abbrev path : List ℕ
  path = take end (take hash text)

  path_is : path ≡ path_of text
  path_is = rw (e, h) refl

  query_is : drop (end + 1) (take hash text) ≡ query_of text
  query_is = rw (e, h) refl

  pub not_rooted : is_rooted path ≡ false → Err NoKeyPath ≡ target_answer table at text
  unfolding target_answer
  not_rooted other = let g = rw path_is at other in rw g refl

  pub no_key_path : is_rooted path ≡ true → None ≡ key_path table (segments at path) → Err NoKeyPath ≡ target_answer table at text
  unfolding target_answer
  no_key_path rooted none = let g = rw path_is at rooted in let k = rw path_is at none in rw (g, ← k) refl

  pub pairs_found : (found all : List Written) (rest : List ℕ) (result : Result (List Pair) LinkFault) → end ≤ length (take hash text)
      → is_rooted path ≡ true → Some found ≡ key_path table (segments at path) → rest ≡ drop (end + 1) (take hash text)
      → all ≡ found ++ query_pairs (at + end + 1) rest → OrError Memory result (written_answer table all)
      → OrError Memory result (target_answer table at text)
  unfolding target_answer
  pairs_found found all rest result within rooted some behind both answer =
      let g = rw path_is at rooted in
      let k = rw path_is at some in
      let size : length (path_of text) ≡ end = ap length (sym path_is) ∙ length-take-le end (take hash text) within in
      let query : rest ≡ query_of text = behind ∙ query_is in
      let own = rw (both, query) at answer in
      rw (g, ← k, size) own

pub link_by : (table : List AiRow) (text : List ℕ) (at : ℕ) → Some at ≡ authority_end text → link_answer table text ≡ target_answer table at (drop at text)
unfolding link_answer
link_by table text at h = rw (← h) refl

pub no_link : (table : List AiRow) (text : List ℕ) → None ≡ authority_end text → link_answer table text ≡ Err NotHttp
unfolding link_answer
no_link table text h = rw (← h) refl

-- ---- pairs that are read are valid

pub target_in_order : (table : List AiRow) (at : ℕ) (text : List ℕ) (ps : List Pair) → target_answer table at text ≡ Ok ps → All (IsInOrder table) ps
unfolding target_answer
target_in_order table at text ps h = elim (true_or_false (is_rooted (path_of text))) [
  | inr t ↦ absurd (let g = rw t at h in let bad : Err NoKeyPath ≡ Ok ps = g in cc)
  | inl t ↦ let g = rw t at h in by (key_path table (segments at (path_of text))) g
]
  where
    by : (o : Option (List Written)) → by_key_path table (query_pairs (at + length (path_of text) + 1) (query_of text)) o ≡ Ok ps → All (IsInOrder table) ps
    by None h = absurd (let bad : Err NoKeyPath ≡ Ok ps = h in cc)
    by (Some found) h = written_in_order table (found ++ query_pairs (at + length (path_of text) + 1) (query_of text)) ps h
