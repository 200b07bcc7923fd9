-- What a copied piece is, and what it leaves.
use Rattle.std.proofs.Common.{◌≡◌, ℕ, ◌+◌, List, ◌++◌, length, take, drop, sym, ◌∙◌, ap}
use Rattle.std.proofs.lemmas.List.{take-append-drop, drop-drop}
use Rattle.std.proofs.Math.Seq.{take-append_seam}

-- the first `count` of the bytes from `start` on, copied to the front of a buffer, and the bytes after them
pub copied_piece : (bytes front tail : List ℕ) (start count : ℕ) → front ≡ take count (drop start bytes) → length front ≡ count
    → drop start bytes ≡ take count (front ++ tail) ++ drop (start + count) bytes
copied_piece bytes front tail start count copied size =
    let taken : take count (front ++ tail) ≡ front = (ap (λ n. take n (front ++ tail)) (sym size)) ∙ take-append_seam front tail in
    let left : drop count (drop start bytes) ≡ drop (start + count) bytes = drop-drop count start bytes in
    sym (take-append-drop count (drop start bytes)) ∙ ap (λ xs. xs ++ drop count (drop start bytes)) (sym copied ∙ sym taken) ∙ ap (λ xs. take count (front ++ tail) ++ xs) left
