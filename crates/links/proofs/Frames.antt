-- Words that are none of the shape's stay, whatever is done to the rows.
use Rattle.std.proofs.Common.{ℕ, ◌+◌, ◌-◌, ◌<◌, eqb, List, set, refl, ◌∙◌, arith, length-set, get_or-set_other}
use Rattle.std.proofs.lemmas.Bool.{cond_both}
use Rattle.links.specs.Area.{place_at, tail_at, header_of, Sound, after_in, tail_in, inserted, removed, emptied, chained, filled}
use Rattle.links.specs.Rows.{Frame, Frames}
use Rattle.links.specs.declared.shape.Shape.{Shape}
use Rattle.links.proofs.Addresses.{header_is}
use Rattle.links.proofs.Loops.{length_chained, length_emptied, chained_other, emptied_other}

frame_none : (h : Shape) (n : List ℕ) → Frame h n n
frame_none h n = record { long = refl; beyond = λ i out. refl }

frame_both : (h : Shape) (a b c : List ℕ) → Frame h a b → Frame h b c → Frame h a c
frame_both h a b c f g = record { long = g.long ∙ f.long; beyond = λ i out. g.beyond i out ∙ f.beyond i out }

frame_place : (h : Shape) (n : List ℕ) (p v : ℕ) → p < h.cells + h.rows → Frame h n (set n (place_at h p) v)
frame_place h n p v lt = record { long = length-set n (place_at h p) v; beyond = λ i out. get_or-set_other n (place_at h p) i v 0 (out.places p lt) }

frame_tail : (h : Shape) (n : List ℕ) (r v : ℕ) → r < h.rows → Frame h n (set n (tail_at h r) v)
frame_tail h n r v lt = record { long = length-set n (tail_at h r) v; beyond = λ i out. get_or-set_other n (tail_at h r) i v 0 (out.tails r lt) }

pub inserted_frame : (h : Shape) (n : List ℕ) (r b x : ℕ) → r < h.rows → b < h.cells + h.rows → x < h.cells → Frame h n (inserted h r b x n)
unfolding inserted
inserted_frame h n r b x lr lb lx = cond_both (eqb (tail_in h n r) b) (set n₂ (tail_at h r) x) n₂ (Frame h n) (λ _. frame_both h n n₂ _ two (frame_tail h n₂ r x lr)) (λ _. two)
  where
    n₁ : List ℕ
    n₁ = set n (place_at h x) (after_in h n b)

    n₂ : List ℕ
    n₂ = set n₁ (place_at h b) x

    two : Frame h n n₂
    two = frame_both h n n₁ n₂ (frame_place h n x (after_in h n b) (omega arith)) (frame_place h n₁ b x lb)

pub removed_frame : (h : Shape) (n : List ℕ) (r b x : ℕ) → r < h.rows → b < h.cells + h.rows → Frame h n (removed h r b x n)
unfolding removed
removed_frame h n r b x lr lb = cond_both (eqb (tail_in h n r) x) (set n₁ (tail_at h r) b) n₁ (Frame h n) (λ _. frame_both h n n₁ _ one (frame_tail h n₁ r b lr)) (λ _. one)
  where
    n₁ : List ℕ
    n₁ = set n (place_at h b) (after_in h n x)

    one : Frame h n n₁
    one = frame_place h n b (after_in h n x) lb

pub emptied_frame : (h : Shape) (n : List ℕ) → Sound h → Frame h n (emptied h.rows h 0 n)
emptied_frame h n sound = record {
  long = length_emptied h.rows h 0 n;
  beyond = λ i out. emptied_other h.rows h 0 n i (λ s ge lt. (out.places (header_of h s) (omega (arith, header_is h s sound (omega arith))), out.tails s (omega arith)));
}

pub filled_frame : (h : Shape) (n : List ℕ) (r : ℕ) → Sound h → r < h.rows → Frame h n (filled h r n)
unfolding filled
filled_frame h n r sound lt =
    cond_both (eqb h.cells 0) n (set n₂ (tail_at h r) (h.cells - 1)) (Frame h n) (λ _. frame_none h n)
    (λ _. frame_both h n n₂ _ (frame_both h n n₁ n₂ chain (frame_place h n₁ (header_of h r) 0 (omega (arith, header_is h r sound lt)))) (frame_tail h n₂ r (h.cells - 1) lt))
  where
    n₁ : List ℕ
    n₁ = chained h.cells h 0 n

    n₂ : List ℕ
    n₂ = set n₁ (place_at h (header_of h r)) 0

    chain : Frame h n n₁
    chain = record { long = length_chained h.cells h 0 n; beyond = λ i out. chained_other h.cells h 0 n i (λ d ge l. out.places d (omega arith)) }

pub frames : Frames
frames h n r b x sound lr lb lx = (inserted_frame h n r b x lr lb lx, removed_frame h n r b x lr lb, emptied_frame h n sound, filled_frame h n r sound lr)
