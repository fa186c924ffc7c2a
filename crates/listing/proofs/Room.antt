-- A listing has room in `ROOM` bytes: at most 2,048 events of at most 18 bytes each, the header and the last line.
use Prim.Native.Nat.{ℕ, zero, suc, ◌+◌, ◌*◌, ◌/◌, ◌%◌, ◌≤◌, ◌<◌}
use mathlib.Core.List.{List, ◌++◌}
use native.Mathlib.Omega.{arith}
use native.Mathlib.Nat.{mul-le-mul, mod-lt, div-lt_iff_lt-mul}
use lib.ListN.{length, get_or, length-append}
use Rattle.scope.specs.Outcome.{Outcome, gives, refused}
use Rattle.scope.specs.Plan.{Plan}
use Rattle.scope.specs.Lines.{header, event_line, event_lines, arrived_line, listing}
use Rattle.listing.specs.Room.{listing_room}
use Rattle.text.proofs.Decimal.{decimal-all, decimal-most}
use Rattle.listing.proofs.Lines.{refused-size}

-- slots below 64, messages below 32, and numbers of 16 bits
event-room : (i m k n : ℕ) → i < 100 → m < 100 → k < 65536 → n < 65536 → length (event_line i m k n) ≤ 18
event-room i m k n p q r s =
    let a = decimal-most i 1 p in
    let b = decimal-most m 1 q in
    let c = decimal-most k 4 (omega arith) in
    let d = decimal-most n 4 (omega arith) in
    simp length-append (omega arith)

lines_room : (m t : ℕ) (row : List ℕ) → 0 < m → m ≤ 32 → t ≤ 64 → ((i : ℕ) → get_or row i 0 < 65536) → (j n : ℕ) → j + n ≤ t * m →
    length (event_lines m row j n) ≤ n * 18
unfolding event_lines
lines_room m t row z h g small j zero l = omega arith
lines_room m t row z h g small j (suc n) l =
    let rest = lines_room m t row z h g small (j + 1) n (omega arith) in
    let slot : j / m < t = (div-lt_iff_lt-mul z).1 (omega arith) in
    let message : j % m < m = mod-lt j z in
    let line = event-room (j / m) (j % m) (get_or row (2 * j) 0) (get_or row (2 * j + 1) 0) (omega arith) (omega arith)
    (small (2 * j)) (small (2 * j + 1)) in
    let a = length-append (event_line (j / m) (j % m) (get_or row (2 * j) 0) (get_or row (2 * j + 1) 0)) (event_lines m row (j + 1) n) in
    omega arith

pub listing-room : (o : Outcome) (plan : Plan) (row : List ℕ) → 0 < length plan.messages →
    length plan.messages ≤ 32 → plan.timeout ≤ 64 →
    ((i : ℕ) → get_or row i 0 < 65536) → length (listing o plan row) ≤ listing_room
unfolding listing
listing-room (gives n) plan row z h g small =
    let m = length plan.messages in
    let t = plan.timeout in
    let lines : length (event_lines m row 0 (t * m)) ≤ t * m * 18 = lines_room m t row z h g small 0 (t * m) (omega arith) in
    let few : t * m ≤ 64 * 32 = mul-le-mul g h in
    let a = decimal-all n in
    let b = decimal-all m in
    let last : length (arrived_line n m) ≤ 53 = simp length-append (omega arith) in
    let c = length-append (event_lines m row 0 (t * m)) (arrived_line n m) in
    let d = length-append header (event_lines m row 0 (t * m) ++ arrived_line n m) in
    omega arith
listing-room (refused r) plan row z h g small = omega (arith, refused-size r)
