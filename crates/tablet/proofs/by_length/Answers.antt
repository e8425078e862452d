use Rattle.std.proofs.Common.{◌≡◌, ◌*◌, length, sym, ◌∙◌, arith}
use Rattle.tablet.proofs.Accepted.{sound, block_of, last_length}
use Rattle.tablet.proofs.by_length.Goals as goal

pub through_cell-requires : goal.through_cell-requires
through_cell-requires c =
    let e : length c.args.bytes.now ≡ 256 = omega arith in
    record { single = (sound c.args.kind c.requires.accepted).one (sym c.requires.size ∙ e); size = e }

pub through-requires : goal.through-requires
through-requires c =
    let e : length c.args.bytes.now ≡ 4 * 128 = omega arith in
    record { size = e; rows = c.requires.rows; block = block_of c.args.kind (length c.args.bytes.now) 128 c.requires.accepted c.requires.size e }

pub through-requires-in-1024 : goal.through-requires-in-1024
through-requires-in-1024 c =
    let e : length c.args.bytes.now ≡ 4 * 256 = omega arith in
    record { size = e; rows = c.requires.rows; block = block_of c.args.kind (length c.args.bytes.now) 256 c.requires.accepted c.requires.size e }

pub through-requires-in-2048 : goal.through-requires-in-2048
through-requires-in-2048 c =
    let e : length c.args.bytes.now ≡ 4 * 512 = omega arith in
    record { size = e; rows = c.requires.rows; block = block_of c.args.kind (length c.args.bytes.now) 512 c.requires.accepted c.requires.size e }

pub through-requires-in-4096 : goal.through-requires-in-4096
through-requires-in-4096 c =
    let e : length c.args.bytes.now ≡ 4 * 1024 = omega arith in
    record { size = e; rows = c.requires.rows; block = block_of c.args.kind (length c.args.bytes.now) 1024 c.requires.accepted c.requires.size e }

pub through-requires-in-8192 : goal.through-requires-in-8192
through-requires-in-8192 c =
    let e : length c.args.bytes.now ≡ 4 * 2048 = omega arith in
    record { size = e; rows = c.requires.rows; block = block_of c.args.kind (length c.args.bytes.now) 2048 c.requires.accepted c.requires.size e }

pub through-requires-in-16384 : goal.through-requires-in-16384
through-requires-in-16384 c =
    let e : length c.args.bytes.now ≡ 4 * 4096 = omega arith in
    record { size = e; rows = c.requires.rows; block = block_of c.args.kind (length c.args.bytes.now) 4096 c.requires.accepted c.requires.size e }

pub through-requires-in-32768 : goal.through-requires-in-32768
through-requires-in-32768 c =
    let e : length c.args.bytes.now ≡ 4 * 8192 = omega arith in
    record { size = e; rows = c.requires.rows; block = block_of c.args.kind (length c.args.bytes.now) 8192 c.requires.accepted c.requires.size e }

pub through-requires-in_default : goal.through-requires-in_default
through-requires-in_default c =
    let e : length c.args.bytes.now ≡ 4 * 16384 =
    last_length c.args.kind (length c.args.bytes.now) c.requires.accepted c.requires.size
    (λ z. omega arith) (λ z. omega arith) (λ z. omega arith) (λ z. omega arith) (λ z. omega arith) (λ z. omega arith) (λ z. omega arith) (λ z. omega arith) in
    record { size = e; rows = c.requires.rows; block = block_of c.args.kind (length c.args.bytes.now) 16384 c.requires.accepted c.requires.size e }
