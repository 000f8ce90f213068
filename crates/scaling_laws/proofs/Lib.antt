-- streams of which one stands in the other
mod Embedded
-- answers over a shard and over the whole
mod Sharded
-- rows of one query among those of all
mod OneQuery
