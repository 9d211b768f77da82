-- Laws of the program's buffer between two turns: what is held stands at its front, and the places lie within it.
use mathlib.Core.Path.{◌≡◌, sym, ap, ◌∙◌}
use mathlib.Core.List.{List}
use Prim.Native.Nat.{ℕ, ◌≤◌}
use native.Mathlib.Omega.{arith}
use lib.ListN.{length, take, drop, length-append, length-take}
use lib.Seq.{take_at}
use Rattle.lines.specs.Lines.{held_of, Held}
use Rattle.program.specs.Turning.{between, InOrder}
use Rattle.program.specs.declared.turn.Stream.{Stream}

-- what is held stands at the front of the buffer
pub held_front : {buffer held buffer' : List ℕ} {n : ℕ} → Held buffer held buffer' n → between buffer' 0 n ≡ held
held_front {buffer} {held} {buffer'} {n} h = ap (λ (b : List ℕ). take n b) h.buffer ∙ take_at held (drop (length held) buffer) n (sym h.count)

pub held_within : {buffer held buffer' : List ℕ} {n : ℕ} → Held buffer held buffer' n → n ≤ length buffer'
held_within {buffer} {held} h = omega (arith, h.count, ap length h.buffer, length-append held (drop (length held) buffer))

pub held_most : (buffer : List ℕ) (from end most : ℕ) → length (held_of buffer from end most) ≤ most
held_most buffer from end most = rw (length-take most (drop from (take end buffer))) (omega arith)

-- the places lie within another buffer of the same length
pub in_order_kept : {s : Stream} {buffer buffer' : List ℕ} → InOrder s buffer → length buffer' ≡ length buffer → InOrder s buffer'
in_order_kept o e = record { order = o.order; within = omega (arith, o.within, e); front = o.front }
