-- Heads have replies, one each, and the replies to heads in a row.
use Rattle.std.proofs.Common.{◌≡◌, ℕ, ◌-◌, Bool, false, List, [], ◌∷◌, ◌++◌, length, Option, Some, None, suc, ◌==◌, refl, sym, ap, ◌∙◌, subst, arith, append_assoc}
use Rattle.gs_ai.specs.declared.row.AiRow.{AiRow}
use Rattle.gs_chars.proofs.TruthsAndLists.{or_first, or_second}
use Rattle.gs_links.specs.declared.link.Link.{Link}
use Rattle.gs_http.specs.declared.replies.Reply.{Reply}
use Rattle.gs_http.specs.declared.resolver.Settings.{Settings}
use Rattle.gs_http.specs.Heads.{Asked}
use Rattle.gs_http.specs.Replies.{reply_of}
use Rattle.gs_http.specs.Streams.{AreReplies, IsReplyTo, all_bytes, bytes_of, has_closing, replies_of}
use Rattle.gs_http.proofs.HeadLaws.{one_asked, some_asked}

module _ (table : List AiRow) (links : List Link) (settings : Settings) where
  pub some_reply : (head : Option (List ℕ)) (last : Bool) → (reply : Reply) × IsReplyTo table links settings head last reply
  some_reply None last = (reply_of table links settings None last, refl)
  some_reply (Some head) last =
      let says = some_asked head in
      (reply_of table links settings says.0 last, record { asked = says.0; is_asked = says.1; is_reply = refl })

  pub one_reply_to : (head : Option (List ℕ)) (last : Bool) (a b : Reply) → IsReplyTo table links settings head last a
      → IsReplyTo table links settings head last b → a ≡ b
  one_reply_to None last a b x y = x ∙ sym y
  one_reply_to (Some head) last a b x y =
      x.is_reply ∙ ap (λ (asked : Option Asked). reply_of table links settings asked last)
      (one_asked head x.asked y.asked x.is_asked y.is_asked) ∙ sym y.is_reply

  pub some_replies : (n : ℕ) (heads : List (Option (List ℕ))) → (replies : List Reply) × AreReplies table links settings n heads replies
  some_replies n [] = ([], tt)
  some_replies n (head ∷ heads) =
      let first = some_reply head (n == 1) in
      let rest = some_replies (n - 1) heads in
      (first.0 ∷ rest.0, (first.1, rest.1))

  pub one_replies : (n : ℕ) (heads : List (Option (List ℕ))) (a b : List Reply) → AreReplies table links settings n heads a
      → AreReplies table links settings n heads b → a ≡ b
  one_replies n [] [] [] x y = refl
  one_replies n [] [] (s ∷ b) x y = absurd y
  one_replies n [] (r ∷ a) b x y = absurd x
  one_replies n (head ∷ heads) [] b x y = absurd x
  one_replies n (head ∷ heads) (r ∷ a) [] x y = absurd y
  one_replies n (head ∷ heads) (r ∷ a) (s ∷ b) x y =
      let first = one_reply_to head (n == 1) r s x.0 y.0 in
      let rest = one_replies (n - 1) heads a b x.1 y.1 in
      cc

  pub are_append : (n : ℕ) (heads more : List (Option (List ℕ))) (a b : List Reply) → AreReplies table links settings n heads a
      → AreReplies table links settings (n - length heads) more b → AreReplies table links settings n (heads ++ more) (a ++ b)
  are_append n [] more [] b x y = let e : n - 0 ≡ n = omega arith in subst (λ (m : ℕ). AreReplies table links settings m more b) e y
  are_append n [] more (r ∷ a) b x y = absurd x
  are_append n (head ∷ heads) more [] b x y = absurd x
  are_append n (head ∷ heads) more (r ∷ a) b x y =
      let e : n - suc (length heads) ≡ (n - 1) - length heads = omega arith in
      (x.0, are_append (n - 1) heads more a b x.1 (subst (λ (m : ℕ). AreReplies table links settings m more b) e y))

-- ---- the bytes of heads and of replies in a row

pub bytes_append : (heads more : List (Option (List ℕ))) → bytes_of (heads ++ more) ≡ bytes_of heads ++ bytes_of more
bytes_append [] more = refl
bytes_append (None ∷ heads) more = bytes_append heads more
bytes_append (Some head ∷ heads) more = ap (λ rest. head ++ rest) (bytes_append heads more) ∙ sym (append_assoc head (bytes_of heads) (bytes_of more))

pub all_append : (a b : List Reply) → all_bytes (a ++ b) ≡ all_bytes a ++ all_bytes b
all_append [] b = refl
all_append (r ∷ a) b = ap (λ rest. r.bytes ++ rest) (all_append a b) ∙ sym (append_assoc r.bytes (all_bytes a) (all_bytes b))

pub closing_append : (a b : List Reply) → has_closing a ≡ false → has_closing (a ++ b) ≡ has_closing b
closing_append [] b e = refl
closing_append (r ∷ a) b e = rw (or_first r.close (has_closing a) e) (closing_append a b (or_second r.close (has_closing a) e))

-- after replies that do not end the connection the others follow
pub replies_append : (a b : List Reply) → has_closing a ≡ false → replies_of (a ++ b) ≡ all_bytes a ++ replies_of b
replies_append [] b e = refl
replies_append (r ∷ a) b e =
    rw (or_first r.close (has_closing a) e) (ap (λ rest. r.bytes ++ rest) (replies_append a b (or_second r.close (has_closing a) e)) ∙ sym (append_assoc r.bytes (all_bytes a) (replies_of b)))
