-- The replies of all calls, and the output beside a reply.
pub mod Reply
pub mod Replies
