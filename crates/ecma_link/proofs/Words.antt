-- The words of faults, one behind another.
use Rattle.std.proofs.Common.{◌≡◌, ◌∙◌, ℕ, List, [], ◌∷◌, ◌++◌, ◌+◌, ◌≤◌, ◌<◌, ap, arith, append_assoc, drop, get_or, length, length-append, length-drop, refl, subst, sym, take}
use Rattle.std.proofs.lemmas.List.{drop-append-le, drop_at, flat_map_more, take-append-le, take_all, take_at, take_more}
use Rattle.std.proofs.lemmas.Slice.Zip.{all_zipped_more}
use Rattle.ecma_answers.specs.declared.told.Told.{Told}
use Rattle.ecma_link.specs.declared.faults.EcmaFault.{EcmaFault}
use Rattle.std.specs.List.{flat_map}
use Rattle.ecma_link.specs.Faults.{AreFaults, IsFault, piece, words_of}

pub first_piece : (a b c : List ℕ) → piece (a ++ (b ++ c)) (length a) (length b) ≡ b
first_piece a b c = ap (take (length b)) (drop_at a (b ++ c) _ refl) ∙ take_at b c _ refl

pub middle_piece : (a b c d : List ℕ) → piece (a ++ (b ++ (c ++ d))) (length (a ++ b)) (length c) ≡ c
middle_piece a b c d =
    ap (λ z. piece z (length (a ++ b)) (length c)) (sym (append_assoc a b (c ++ d))) ∙ first_piece (a ++ b) c d

pub last_piece : (a b : List ℕ) → piece (a ++ b) (length a) (length b) ≡ b
last_piece a b = ap (take (length b)) (drop_at a b _ refl) ∙ take_all (length b) b (omega arith)

-- what is read of some bytes is read of more bytes too
piece_more : (a c : List ℕ) (at n : ℕ) → at + n ≤ length a → piece (a ++ c) at n ≡ piece a at n
piece_more a c at n b =
    let left = length-drop at a in
    ap (take n) (drop-append-le at a c (omega arith)) ∙ take-append-le n (drop at a) c (omega arith)

within_more : (a c : List ℕ) (n : ℕ) → n ≤ length a → n ≤ length (a ++ c)
within_more a c n b = let e = length-append a c in omega arith

fault_more : (a c : List ℕ) (t : Told) (f : EcmaFault) → IsFault a t f → IsFault (a ++ c) t f
fault_more a c t f h = record {
  size = h.size;
  severity = h.severity;
  start = h.start;
  end = h.end;
  kind_within = within_more a c (f.kind_at + f.kind_length) h.kind_within;
  kind = piece_more a c f.kind_at f.kind_length h.kind_within ∙ h.kind;
  message_within = within_more a c (f.message_at + f.message_length) h.message_within;
  message = piece_more a c f.message_at f.message_length h.message_within ∙ h.message;
  previous_start = h.previous_start;
  previous_end = h.previous_end;
  note_within = within_more a c (f.note_at + f.note_length) h.note_within;
  note = piece_more a c f.note_at f.note_length h.note_within ∙ h.note;
}

all_more : (a c : List ℕ) (ts : List Told) (fs : List EcmaFault) → AreFaults a ts fs → AreFaults (a ++ c) ts fs
all_more a c [] [] h = h
all_more a c [] (f ∷ fs) h = absurd h
all_more a c (t ∷ ts) [] h = absurd h
all_more a c (t ∷ ts) (f ∷ fs) h = (fault_more a c t f h.0, all_more a c ts fs h.1)

pub faults_more : (a c new : List ℕ) (ts : List Told) (fs : List EcmaFault) (i : ℕ) (d : Told) (f : EcmaFault) → new ≡ a ++ c → i < length ts
    → AreFaults a (take i ts) fs → IsFault new (get_or ts i d) f → AreFaults new (take (i + 1) ts) (fs ++ (f ∷ []))
faults_more a c new ts fs i d f e b all one =
    let before = subst (λ it. AreFaults it (take i ts) fs) (sym e) (all_more a c (take i ts) fs all) in
    subst (λ it. AreFaults new it (fs ++ (f ∷ []))) (sym (take_more ts i d b)) (all_zipped_more (IsFault new) (take i ts) fs (get_or ts i d) f before one)

-- the words of some faults and of one more
pub words_more : (a new : List ℕ) (ts : List Told) (i : ℕ) (d : Told) → i < length ts → a ≡ flat_map words_of (take i ts) → new ≡ a ++ words_of (get_or ts i d)
    → new ≡ flat_map words_of (take (i + 1) ts)
words_more a new ts i d b e f =
    f ∙ ap (λ it. it ++ words_of (get_or ts i d)) e ∙ flat_map_more words_of [] (take i ts) (get_or ts i d) ∙ ap (flat_map words_of) (sym (take_more ts i d b))
